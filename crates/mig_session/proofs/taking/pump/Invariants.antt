use Rattle.std.proofs.Common.{◌≡◌, ◌≤◌}
use Rattle.mig_sources.specs.Sources.{counts_in}
use Rattle.mig_session.specs.Loading.{Feeding, Takes}
use Rattle.mig_session.proofs.taking.pump.Given as goal

abbrev pub invariant-loop : goal.invariant-loop
invariant-loop g l = record {
  takes : (f : Feeding) → Takes f l.fn.waiting l.fn.load → l.counts ≡ counts_in f.texts → Takes f l.waiting l.load;
  rounds : l.fn.load.load.rounds ≤ l.load.load.rounds;
}
