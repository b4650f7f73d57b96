use Rattle.std.proofs.Common.{◌≡◌}
use Rattle.mig_send_tests.proofs.stepped.drain_each_step.Given as goal

abbrev pub invariant-steps : goal.invariant-steps
invariant-steps l = l.worker.terms ≡ l.fn.worker.terms
