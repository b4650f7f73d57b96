use Rattle.std.proofs.Common.{◌≡◌, ◌≤◌, [], replicate, vec_len, vec_capacity}
use Rattle.mig_session.proofs.waiting.Waiting.new.Given as goal

abbrev pub invariant-loop : goal.invariant-loop
invariant-loop g l = record {
  queues : l.queues.items ≡ replicate l.counter [];
  count : vec_len l.queues ≡ l.counter;
  room : l.channels ≤ vec_capacity l.queues;
}
