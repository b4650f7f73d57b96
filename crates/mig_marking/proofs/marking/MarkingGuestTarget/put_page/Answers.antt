use Rattle.std.proofs.Common.{ℕ, ◌<◌, ◌^◌, sym, ap, subst, ◌∙◌, w8}
use Rattle.std.proofs.Math.Facts.{Fits-lt-pow}
use Rattle.std.proofs.lemmas.List.Elements.{All-from_get_or}
use Rattle.mig_mem.specs.Image.{Image, with_page}
use Rattle.mig_mem.specs.PlaceSet.{PlaceSet}
use Rattle.mig_marking.specs.Marking.{Marked, IsMarked, seen}
use Rattle.mig_marking.proofs.Marks.{marked_put, seen_put}
use Rattle.mig_marking.proofs.marking.MarkingGuestTarget.put_page.Goals as goal

pub invariant_of-self : goal.invariant_of-self
invariant_of-self g c =
    let m : Marked = record { memory = g.M.GuestTarget.image c.self.inside.memory; written = c.self.inside.written } in
    let are = All-from_get_or (λ (byte : ℕ). byte < 2 ^ 8) c.args.bytes.now 0 (λ i lt. Fits-lt-pow {w = w8} (c.type_inv.bytes i)) in
    subst (λ (i : Image). IsMarked (record { memory = i; written = c.mark.new.self })) (sym c.put_page.ensures.image)
    (subst (λ (s : PlaceSet). IsMarked (record { memory = with_page m.memory c.args.place c.args.bytes.now; written = s })) (sym c.mark.ensures.set)
    (marked_put m c.args.place c.args.bytes.now c.self.invariant are))

pub returns-clause-image : goal.returns-clause-image
returns-clause-image g c =
    let m : Marked = record { memory = g.M.GuestTarget.image c.self.inside.memory; written = c.self.inside.written } in
    ap (λ (i : Image). seen (record { memory = i; written = c.mark.new.self })) c.put_page.ensures.image
    ∙ ap (λ (s : PlaceSet). seen (record { memory = with_page m.memory c.args.place c.args.bytes.now; written = s })) c.mark.ensures.set
    ∙ seen_put m c.args.place c.args.bytes.now c.self.invariant
    ∙ ap (λ (x : Marked). with_page (seen x) c.args.place c.args.bytes.now) c.self.view_is
