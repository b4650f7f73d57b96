use Rattle.std.proofs.Common.{ℕ, ◌≡◌, ◌<◌, true}
use Rattle.mig_mem.specs.Place.{has_place}
use Rattle.mig_apart.proofs.ClaimedPlaces.{nth}
use Rattle.mig_apart.proofs.places.all_claimed.Given as goal

abbrev pub invariant-loop-i : goal.invariant-loop-i
invariant-loop-i g l = (k : ℕ) → k < l.i → has_place l.claimed.marked (nth l.claimed.table l.block l.head.bytes.now k) ≡ true
