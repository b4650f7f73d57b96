use Rattle.mig_answer.proofs.Hellos.{HaveSeen}
use Rattle.mig_answer.proofs.verdicts.repeated_id.Given as goal

abbrev pub invariant-loop-j : goal.invariant-loop-j
invariant-loop-j l = HaveSeen l.j l.hellos l.seen
