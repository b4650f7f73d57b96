use Rattle.std.proofs.Common.{subst}
use Rattle.mig_assemble.specs.NamedPlaces.{AddsArrivals}
use Rattle.mig_in_place.specs.Round.{KeptRound}
use Rattle.mig_in_place.proofs.round.RoundInHand.clear_into.Goals as goal

pub returns-clause-adds : goal.returns-clause-adds
returns-clause-adds g c = subst (λ (r : KeptRound). AddsArrivals r.arrivals c.args.named.now c.clear_into.new.named) c.self.view_is c.clear_into.ensures.adds
