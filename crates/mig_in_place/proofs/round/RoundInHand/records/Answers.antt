use Rattle.std.proofs.Common.{refl, sym, subst}
use Rattle.mig_assemble.specs.Target.{pages_of_round}
use Rattle.mig_in_place.specs.Round.{KeptRound, Keeps}
use Rattle.mig_in_place.proofs.Keeping.{records_kept}
use Rattle.mig_in_place.proofs.round.RoundInHand.records.Goals as goal

pub returns-clause-keeps : goal.returns-clause-keeps
returns-clause-keeps g c = λ table came keeps.
    let i = c.self.inside in
    let old : KeptRound = record { arrivals = i.arrivals; has_misplaced = i.has_misplaced } in
    let new : KeptRound = record { arrivals = c.records.new.self; has_misplaced = i.has_misplaced } in
    records_kept (pages_of_round c.args.round.now) old new c.records.ensures.come refl table came
    (subst (λ (r : KeptRound). Keeps table came r) (sym c.self.view_is) keeps)
