use Rattle.mig_mapped.proofs.FrontSteps.{NamesSoFar}
use Rattle.mig_mapped.proofs.front.names_in.Given as goal

abbrev pub invariant-loop : goal.invariant-loop
invariant-loop l = NamesSoFar l.bytes l.counter l.len l.mapped
