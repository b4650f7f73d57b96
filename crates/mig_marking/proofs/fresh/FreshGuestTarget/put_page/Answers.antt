use Rattle.std.proofs.Common.{sym, subst}
use Rattle.mig_mem.specs.Image.{Image, with_page}
use Rattle.mig_mem.specs.PlaceSet.{PlaceSet}
use Rattle.mig_marking.specs.Fresh.{AreZeros}
use Rattle.mig_marking.proofs.Zeros.{zeros_elsewhere}
use Rattle.mig_marking.proofs.fresh.FreshGuestTarget.put_page.Goals as goal

pub invariant_of-self : goal.invariant_of-self
invariant_of-self g c =
    let m : Image = g.M.GuestTarget.image c.self.inside.memory in
    subst (λ (i : Image). AreZeros i c.mark.new.self) (sym c.put_page.ensures.image)
    (subst (λ (s : PlaceSet). AreZeros (with_page m c.args.place c.args.bytes.now) s) (sym c.mark.ensures.set)
    (zeros_elsewhere m c.self.inside.written c.args.place c.args.bytes.now c.self.invariant))
