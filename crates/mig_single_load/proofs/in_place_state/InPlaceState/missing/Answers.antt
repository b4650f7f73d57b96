use Rattle.std.proofs.Common.{subst, sym}
use Rattle.mig_single_load.specs.LoadInPlace.{LoadInPlace, LoadsInPlace}
use Rattle.mig_single_load.proofs.LoadsInPlace.{missing_onto}
use Rattle.mig_single_load.proofs.in_place_state.InPlaceState.missing.Goals as goal

pub returns : goal.returns
returns g c = λ memory given first text ended loads.
    missing_onto given first text c.self.inside.named c.lacking.result
    (subst (λ (x : LoadInPlace). LoadsInPlace memory given first x text ended) (sym c.self.view_is) loads).names.has_named c.lacking.ensures.value
