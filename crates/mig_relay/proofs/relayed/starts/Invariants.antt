use Rattle.std.proofs.Common.{◌≡◌, ◌≤◌, replicate, vec_len, vec_capacity}
use Rattle.mig_relay.proofs.relayed.starts.Given as goal

abbrev pub invariant-loop : goal.invariant-loop
invariant-loop g l = record {
  items : l.places.items ≡ replicate l.counter 0;
  count : vec_len l.places ≡ l.counter;
  room : l.fn.channels ≤ vec_capacity l.places;
}
