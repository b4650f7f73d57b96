use Rattle.std.proofs.Common.{ap, refl, rules, subst}
use Rattle.mig_sources.specs.Sources.{end_step}
use Rattle.mig_in_place.specs.Session.{InPlaceLoad}
use Rattle.mig_in_place.specs.WholeRounds.{KeepsRounds}
use Rattle.mig_c_loads.specs.ZeroBlocks.{Into}
use Rattle.mig_c_loads.specs.InPlaceSessions.{EndsSource}
use Rattle.mig_c_loads.specs.ByRounds.{RoundsLoad}
use Rattle.mig_c_loads.proofs.held_rounds.HeldRounds.end.Goals as goal

pub returns-clause-ends : goal.returns-clause-ends
returns-clause-ends c =
    let was : EndsSource c.args.source 0 c.self.inside.load c.end.new.self = search rules in
    record {
      ends = subst (λ (s : InPlaceLoad). EndsSource c.args.source 0 s c.end.new.self) (ap (λ (x : Into RoundsLoad). x.load.load) c.self.view_is) was;
      keeps = λ _ memory kept.
          subst (λ (s : InPlaceLoad). KeepsRounds (end_step c.args.source) memory kept s kept c.end.new.self)
          (ap (λ (x : Into RoundsLoad). x.load.load) c.self.view_is) (c.end.ensures.keeps memory kept);
      same_apart = ap (λ (x : Into RoundsLoad). x.load.apart) c.self.view_is;
    }
