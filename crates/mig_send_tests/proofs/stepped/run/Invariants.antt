use Rattle.mig_send_tests.specs.Stepped.{HasRun}
use Rattle.mig_send_tests.proofs.stepped.run.Given as goal

abbrev pub invariant-steps : goal.invariant-steps
invariant-steps g l = HasRun l.memory l.fn.worker l.worker
