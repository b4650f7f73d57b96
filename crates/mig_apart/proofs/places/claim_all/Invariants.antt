use Rattle.mig_apart.proofs.ClaimedPlaces.{HasClaimed, nth}
use Rattle.mig_apart.proofs.places.claim_all.Given as goal

abbrev pub invariant-places : goal.invariant-places
invariant-places g l = HasClaimed l.fn.claimed.table (nth l.fn.claimed.table l.block l.head.bytes.now) l.i l.fn.claimed l.claimed
