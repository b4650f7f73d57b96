use Rattle.std.proofs.Common.{◌≡◌, ◌≤◌, ◌++◌, length, vec_len, vec_capacity}
use Rattle.std.specs.Vec.Iter.{into_iter_items}
use Rattle.mig_relay.proofs.multi.start_workers.Given as goal

abbrev pub invariant-loop-feeder : goal.invariant-loop-feeder
invariant-loop-feeder g l = record {
  taken : l.yielded ++ into_iter_items l.feeder-iterator ≡ into_iter_items l.initial.feeder-iterator;
  one_each : vec_len l.workers ≡ length l.yielded;
  room : length (into_iter_items l.initial.feeder-iterator) ≤ vec_capacity l.workers;
}
