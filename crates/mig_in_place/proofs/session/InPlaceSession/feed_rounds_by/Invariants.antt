use Rattle.std.proofs.Common.{◌+◌, ◌-◌, ◌^◌, length}
use Rattle.mig_in_place.proofs.WholeRounds.{RoundsSoFar}
use Rattle.mig_in_place.proofs.session.InPlaceSession.feed_rounds_by.Given as goal

abbrev pub invariant-rounds : goal.invariant-rounds
invariant-rounds g l = RoundsSoFar l.source l.piece l.taken l.fn.memory l.fn.self l.memory l.self

abbrev pub decreases-rounds : goal.decreases-rounds
decreases-rounds g l = (length l.piece - l.taken) + (2 ^ 63 - l.self.rounds)
