use Rattle.std.proofs.Common.{ap, length, arith}
use Rattle.std.proofs.lemmas.List.{length-append}
use Rattle.std.specs.List.{flat_map}
use Rattle.mig_send.specs.Batches.{batch_places, places_from}
use Rattle.mig_send.proofs.Counting.{batches_few, few_places, few_batches}
use Rattle.mig_send.proofs.Walking.{none_counted, one_counted, all_counted}
use Rattle.mig_send.specs.Finding.{cut_of}
use Rattle.mig_send.proofs.finder.count_batches.Goals as goal

pub batches-init : goal.batches-init
batches-init g c = none_counted c.args.limit c.args.dirty.now.marked c.first_from-next.result c.requires.set.is_ascending c.first_from-next.ensures

pub overflow_add-count : goal.overflow_add-count
overflow_add-count g c =
    let marked = c.args.dirty.now.marked in
    let is = c.batches.invariant in
    omega (
      arith,
      is.is_count,
      batches_few is.counted c.args.limit is.is_cut.has_sizes,
      ap length is.is_cut.has_all,
      length-append (flat_map batch_places is.counted) (places_from marked c.batches.next),
      few_places c.args.dirty.now c.requires.set,
    )

pub batches-preserved : goal.batches-preserved
batches-preserved g c =
    one_counted c.args.limit c.args.dirty.now.marked c.batches.count c.in-Some.first c.after_batch-next.result
    (rw c.in-Some.is at c.batches.invariant) c.after_batch-next.ensures

pub returns-clause-count : goal.returns-clause-count
returns-clause-count g c = (all_counted c.args.limit c.args.dirty.now.marked c.batches.count (rw c.in_default.is at c.batches.invariant)).0

pub returns-clause-few : goal.returns-clause-few
returns-clause-few g c =
    let all = all_counted c.args.limit c.args.dirty.now.marked c.batches.count (rw c.in_default.is at c.batches.invariant) in
    omega (arith, all.0, few_batches c.args.dirty.now c.args.limit (cut_of c.args.limit c.args.dirty.now.marked) c.requires.set all.1)

pub returns-clause-cut : goal.returns-clause-cut
returns-clause-cut g c = (all_counted c.args.limit c.args.dirty.now.marked c.batches.count (rw c.in_default.is at c.batches.invariant)).1
