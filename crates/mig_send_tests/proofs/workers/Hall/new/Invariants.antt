use Rattle.std.proofs.Common.{◌≡◌, vec_len}
use Rattle.mig_send_tests.proofs.workers.Hall.new.Given as goal

abbrev pub invariant-loop : goal.invariant-loop
invariant-loop l = vec_len l.times ≡ l.counter
