use Rattle.mig_apart.proofs.ClaimedPlaces.{HasFreed, nth}
use Rattle.mig_apart.proofs.places.free_all.Given as goal

abbrev pub invariant-places : goal.invariant-places
invariant-places g l = HasFreed l.fn.claimed.table (nth l.fn.claimed.table l.block l.head.bytes.now) l.i l.fn.claimed l.claimed
