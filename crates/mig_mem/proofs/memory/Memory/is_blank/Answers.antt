use Rattle.std.proofs.Common.{ℕ, ◌≡◌, ◌∙◌, sym, ap}
use Rattle.mig_mem.specs.Place.{IsPlace}
use Rattle.mig_mem.specs.Image.{Image, content_at, zero_page}
use Rattle.mig_mem.proofs.Kept.{page_read, block_held}
use Rattle.mig_mem.proofs.memory.Memory.is_blank.Goals as goal

pub returns : goal.returns
returns g c = λ yes.
    let table = c.self.inside.table in
    let blocks = c.self.inside.blocks.items in
    let x = c.index.result.now in
    let same : c.args.self.now.table ≡ table = sym (ap (λ (m : Image). m.table) c.self.view_is) in
    let is : IsPlace table c.args.place = rw same at c.requires in
    ap (λ (m : Image). content_at m c.args.place) (sym c.self.view_is)
    ∙ sym (page_read table blocks c.args.place x c.self.invariant is c.index.ensures)
    ∙ c.is_blank.ensures yes
    ∙ ap (λ (n : ℕ). zero_page n) (block_held table blocks c.args.place.block x c.self.invariant is.has_block c.index.ensures).same_size
    ∙ ap (λ (m : Image). zero_page m.table.page_size) c.self.view_is
