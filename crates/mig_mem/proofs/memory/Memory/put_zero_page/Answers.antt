use Rattle.std.proofs.Common.{ℕ, ◌≡◌, ◌∙◌, List, set, sym, ap}
use Rattle.mig_mem.specs.Place.{IsPlace}
use Rattle.mig_mem.specs.Image.{Image, with_page, zero_page}
use Rattle.mig_mem.specs.BlockPages.{BlockPages, with_content}
use Rattle.mig_mem.specs.Buffers.{image_in}
use Rattle.mig_mem.proofs.Kept.{put_image, block_held}
use Rattle.mig_mem.proofs.memory.Memory.put_zero_page.Goals as goal

pub returns : goal.returns
returns g c =
    let table = c.self.inside.table in
    let blocks : List BlockPages = c.self.inside.blocks.items in
    let x : BlockPages = c.index_mut.result.now in
    let same : c.args.self.now.table ≡ table = sym (ap (λ (m : Image). m.table) c.self.view_is) in
    let is : IsPlace table c.args.place = rw same at c.requires in
    ap (λ (b : BlockPages). image_in table (set blocks c.args.place.block b)) c.put_zeros.ensures
    ∙ ap (λ (n : ℕ). image_in table (set blocks c.args.place.block (with_content x c.args.place.page (zero_page n))))
    (block_held table blocks c.args.place.block x c.self.invariant is.has_block c.index_mut.ensures.value).same_size
    ∙ sym (put_image table blocks c.args.place x (zero_page table.page_size) c.self.invariant is c.index_mut.ensures.value)
    ∙ ap (λ (m : Image). with_page m c.args.place (zero_page m.table.page_size)) c.self.view_is
