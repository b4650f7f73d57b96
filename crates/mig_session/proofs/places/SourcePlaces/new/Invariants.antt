use Rattle.std.proofs.Common.{◌≡◌, ◌≤◌, replicate, vec_len, vec_capacity}
use Rattle.mig_session.specs.Session.{nothing_noted}
use Rattle.mig_session.proofs.places.SourcePlaces.new.Given as goal

abbrev pub invariant-loop : goal.invariant-loop
invariant-loop g l = record {
  items : l.noted.items ≡ replicate l.counter nothing_noted;
  count : vec_len l.noted ≡ l.counter;
  room : l.channels ≤ vec_capacity l.noted;
}
