use Rattle.std.proofs.Common.{◌≡◌, false, sym, subst, ◌∙◌}
use Rattle.mig_mem.specs.Place.{IsPlace, has_place}
use Rattle.mig_mem.specs.Image.{Image, with_page, zero_page}
use Rattle.mig_mem.specs.PlaceSet.{PlaceSet}
use Rattle.mig_marking.specs.Fresh.{AreZeros}
use Rattle.mig_marking.proofs.Zeros.{zeros_again, zeros_already}
use Rattle.mig_marking.proofs.fresh.FreshGuestTarget.put_zero_page.Goals as goal

pub invariant_of-self : goal.invariant_of-self
invariant_of-self g c =
    let m : Image = g.M.GuestTarget.image c.self.inside.memory in
    subst (λ (i : Image). AreZeros i c.unmark.new.self) (sym c.put_zero_page.ensures.image)
    (subst (λ (s : PlaceSet). AreZeros (with_page m c.args.place (zero_page m.table.page_size)) s) (sym c.unmark.ensures)
    (zeros_again m c.self.inside.written c.args.place c.self.invariant))

pub returns-else-has-clause-image : goal.returns-else-has-clause-image
returns-else-has-clause-image g c =
    let m : Image = g.M.GuestTarget.image c.self.inside.memory in
    let none : has_place c.self.inside.written.marked c.args.place ≡ false = sym c.has.ensures ∙ c.if-has.false in
    let here : IsPlace m.table c.args.place = subst (λ (i : Image). IsPlace i.table c.args.place) (sym c.self.view_is) c.requires in
    let same : m ≡ with_page m c.args.place (zero_page m.table.page_size) =
    zeros_already m c.self.inside.written c.args.place c.self.invariant c.table-table.ensures.image here none in
    subst (λ (i : Image). i ≡ with_page i c.args.place (zero_page i.table.page_size)) c.self.view_is same
