use Rattle.std.proofs.Common.{◌≡◌}
use Rattle.mig_send_tests.proofs.stepped.sent_by_heads.Given as goal

abbrev pub invariant-packets : goal.invariant-packets
invariant-packets g l = l.worker.terms ≡ l.initial.worker.terms
