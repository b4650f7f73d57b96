use Rattle.std.proofs.Common.{[], refl, ap, ◌∙◌}
use Rattle.mig_assemble.specs.Arrivals.{RoundSoFar}
use Rattle.mig_assemble.proofs.Arriving.{none_come}
use Rattle.mig_assemble.proofs.arrivals.Arrivals.clear.Goals as goal

pub returns : goal.returns
returns g c =
    none_come c.args.self.now.seen.table _ c.clear.ensures.items refl refl
    (c.clear_places.ensures ∙ ap (λ (r : RoundSoFar). record { table = r.seen.table; marked = [] }) c.self.view_is)
