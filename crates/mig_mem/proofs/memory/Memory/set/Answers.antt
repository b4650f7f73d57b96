use Rattle.std.proofs.Common.{ℕ, ◌≡◌, ◌<◌, ◌/◌, ◌%◌, ◌∙◌, List, set, sym, ap}
use Rattle.mig_mem.specs.declared.place.Place.{Place}
use Rattle.mig_mem.specs.RamTable.{block}
use Rattle.mig_mem.specs.Place.{IsPlace, place_at}
use Rattle.mig_mem.specs.Image.{Image, with_page, with_byte}
use Rattle.mig_mem.specs.BlockPages.{BlockPages, page_at, with_content}
use Rattle.mig_mem.specs.Buffers.{image_in}
use Rattle.mig_mem.proofs.Kept.{put_image, page_read}
use Rattle.mig_mem.proofs.PageSizes.{page_of_offset, page_size_some}
use Rattle.mig_mem.proofs.memory.Memory.set.Goals as goal

pub returns : goal.returns
returns g c =
    let table = c.self.inside.table in
    let size = table.page_size in
    let blocks : List BlockPages = c.self.inside.blocks.items in
    let x : BlockPages = c.index_mut.result.now in
    let same : c.args.self.now.table ≡ table = sym (ap (λ (m : Image). m.table) c.self.view_is) in
    let some : 0 < size = page_size_some size c.self.invariant.is_table.has_page_size in
    let p : Place = place_at c.args.block (c.args.offset / size) in
    let is : IsPlace table p = record {
      has_block = rw same at c.requires.has_block;
      has_page = page_of_offset size (block table.blocks c.args.block).pages c.args.offset some (rw same at c.requires.in_block);
    } in
    let content : List ℕ = set (page_at x p.page) (c.args.offset % size) c.args.byte in
    let wrote : c.set.new.self ≡ with_content x p.page content = rw (← c.page_size-size.ensures) c.set.ensures in
    ap (λ (b : BlockPages). image_in table (set blocks c.args.block b)) wrote
    ∙ sym (put_image table blocks p x content c.self.invariant is c.index_mut.ensures.value)
    ∙ ap (λ (l : List ℕ). with_page (image_in table blocks) p (set l (c.args.offset % size) c.args.byte))
    (page_read table blocks p x c.self.invariant is c.index_mut.ensures.value)
    ∙ ap (λ (m : Image). with_byte m c.args.block c.args.offset c.args.byte) c.self.view_is
