use Rattle.std.proofs.Common.{ℕ, ◌∙◌, sym, ap, subst}
use Rattle.mig_mem.specs.Parts.{ChangesPart}
use Rattle.mig_mem.specs.Place.{IsPlace}
use Rattle.mig_mem.specs.Image.{Image, with_page, zero_page}
use borrow.Rule.Slice.Mut.{set_vals}
use Rattle.mig_uses.proofs.StraightPages.{block_written}
use Rattle.mig_uses.proofs.straight.BlocksGuestTarget.put_zero_page.Goals as goal

pub invariant_of-self : goal.invariant_of-self
invariant_of-self g c =
    let table = c.self.inside.table in
    let is : IsPlace table c.args.place = rw (sym (ap (λ (m : Image). m.table) c.self.view_is)) at c.requires in
    let size = c.page_size-size.result in
    (block_written table c.self.inside.blocks.items c.args.place c.index_mut.result.now
    (set_vals c.clear_page.new.bytes c.index_mut.result.now) size (zero_page table.page_size)
    c.self.invariant is c.page_size-size.ensures c.index_mut.ensures.value
    (subst (λ (n : ℕ). ChangesPart size c.index_mut.result.now.now c.clear_page.new.bytes c.args.place.page (zero_page n))
    c.page_size-size.ensures c.clear_page.ensures)).0

pub returns-clause-image : goal.returns-clause-image
returns-clause-image g c =
    let table = c.self.inside.table in
    let is : IsPlace table c.args.place = rw (sym (ap (λ (m : Image). m.table) c.self.view_is)) at c.requires in
    let size = c.page_size-size.result in
    sym (block_written table c.self.inside.blocks.items c.args.place c.index_mut.result.now
    (set_vals c.clear_page.new.bytes c.index_mut.result.now) size (zero_page table.page_size)
    c.self.invariant is c.page_size-size.ensures c.index_mut.ensures.value
    (subst (λ (n : ℕ). ChangesPart size c.index_mut.result.now.now c.clear_page.new.bytes c.args.place.page (zero_page n))
    c.page_size-size.ensures c.clear_page.ensures)).1
    ∙ ap (λ (m : Image). with_page m c.args.place (zero_page m.table.page_size)) c.self.view_is
