use Rattle.std.proofs.Common.{length}
use Rattle.mig_send.specs.Batches.{places_from}
use Rattle.mig_send.proofs.Walking.{IsCounting}
use Rattle.mig_send.proofs.finder.count_batches.Given as goal

abbrev pub invariant-batches : goal.invariant-batches
invariant-batches g l = IsCounting l.limit l.dirty.marked l.next l.count

abbrev pub decreases-batches : goal.decreases-batches
decreases-batches g l = length (places_from l.dirty.marked l.next)
