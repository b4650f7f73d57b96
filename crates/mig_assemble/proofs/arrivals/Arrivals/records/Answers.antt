use Rattle.std.proofs.Common.{refl, sym, subst}
use Rattle.mig_assemble.specs.Target.{pages_of_round}
use Rattle.mig_assemble.specs.Arrivals.{RoundSoFar, HasCome}
use Rattle.mig_assemble.proofs.Arriving.{records_come}
use Rattle.mig_assemble.proofs.arrivals.Arrivals.records.Goals as goal

pub returns : goal.returns
returns g c = record {
  come = λ table came has.
      let i = c.self.inside in
      let old : RoundSoFar = record { numbers = i.numbers.items; misplaced = i.misplaced; double = i.double; seen = i.seen } in
      let new : RoundSoFar = record {
        numbers = i.numbers.items;
        misplaced = i.misplaced;
        double = c.mark_records-self-inside.result;
        seen = c.mark_records-self-inside.new.seen;
      } in
      records_come table came (pages_of_round c.args.round.now) old new refl refl c.mark_records-self-inside.ensures.seen
      (subst (λ (r : RoundSoFar). HasCome table came r) (sym c.self.view_is) has);
}
