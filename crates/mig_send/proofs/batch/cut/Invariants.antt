use Rattle.std.proofs.Common.{length}
use Rattle.mig_send.specs.Batches.{IsInSet, places_from}
use Rattle.mig_send.proofs.Cutting.{IsCutUpTo}
use Rattle.mig_send.proofs.batch.cut.Given as goal

abbrev pub invariant-batches : goal.invariant-batches
invariant-batches g l = record {
  cut : IsCutUpTo l.limit l.dirty.marked (places_from l.dirty.marked l.next) l.batches.items;
  is_in_set : IsInSet l.dirty.marked l.next;
}

abbrev pub decreases-batches : goal.decreases-batches
decreases-batches g l = length (places_from l.dirty.marked l.next)
