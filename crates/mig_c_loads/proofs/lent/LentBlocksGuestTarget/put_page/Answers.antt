use Rattle.std.proofs.Common.{◌∙◌, sym, ap}
use Rattle.mig_mem.specs.Place.{IsPlace}
use Rattle.mig_mem.specs.Image.{Image, with_page}
use borrow.Rule.Slice.Mut.{set_vals}
use Rattle.mig_c_loads.proofs.LentBlocks.{block_written}
use Rattle.mig_c_loads.proofs.lent.LentBlocksGuestTarget.put_page.Goals as goal

pub invariant_of-self : goal.invariant_of-self
invariant_of-self c =
    let table = c.self.inside.table in
    let is : IsPlace table c.args.place = rw (sym (ap (λ (m : Image). m.table) c.self.view_is)) at c.requires.place in
    (block_written table c.self.inside.blocks.items c.args.place c.index_mut.result.now
    (set_vals c.write_page.new.bytes c.index_mut.result.now) c.page_size-size.result c.args.bytes.now
    c.self.invariant is c.page_size-size.ensures c.index_mut.ensures.value
    (c.requires.bytes ∙ ap (λ (m : Image). m.table.page_size) (sym c.self.view_is)) c.write_page.ensures).0

pub returns-clause-image : goal.returns-clause-image
returns-clause-image c =
    let table = c.self.inside.table in
    let is : IsPlace table c.args.place = rw (sym (ap (λ (m : Image). m.table) c.self.view_is)) at c.requires.place in
    sym (block_written table c.self.inside.blocks.items c.args.place c.index_mut.result.now
    (set_vals c.write_page.new.bytes c.index_mut.result.now) c.page_size-size.result c.args.bytes.now
    c.self.invariant is c.page_size-size.ensures c.index_mut.ensures.value
    (c.requires.bytes ∙ ap (λ (m : Image). m.table.page_size) (sym c.self.view_is)) c.write_page.ensures).1
    ∙ ap (λ (m : Image). with_page m c.args.place c.args.bytes.now) c.self.view_is
