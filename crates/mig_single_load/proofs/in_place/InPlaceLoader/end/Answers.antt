use Rattle.std.proofs.Common.{subst, sym}
use Rattle.mig_single_load.specs.LoadInPlace.{InPlace, LoadsOnto}
use Rattle.mig_single_load.proofs.in_place.InPlaceLoader.end.Goals as goal

pub returns-clause-loads : goal.returns-clause-loads
returns-clause-loads g c = λ given first text ended before.
    c.end.ensures.loads (g.M.GuestTarget.image c.self.inside.memory) given first text ended
    (subst (λ (l : InPlace). LoadsOnto given first l text ended) (sym c.self.view_is) before)
