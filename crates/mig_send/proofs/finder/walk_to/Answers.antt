use Rattle.std.proofs.Common.{arith}
use Rattle.mig_send.proofs.Walking.{walk_on, walk_has_place, has_some}
use Rattle.mig_send.proofs.finder.walk_to.Goals as goal

pub unreachable-requires : goal.unreachable-requires
unreachable-requires g c =
    let marked = c.args.dirty.now.marked in
    let walk = c.loop-walk.walk in
    has_some walk.next (walk_has_place c.args.limit marked walk c.loop-walk.invariant.is_walk (omega (arith, c.requires.index))) c.in_default.not-Some

pub loop-walk-preserved : goal.loop-walk-preserved
loop-walk-preserved g c =
    let marked = c.args.dirty.now.marked in
    let after = c.after_batch.ensures in
    record {
      is_walk = (walk_on c.args.limit marked c.loop-walk.walk c.in-Some.first after.batch c.after_batch.result
          c.loop-walk.invariant.is_walk c.in-Some.is after.is_first after.is_in_set).1;
      is_before = omega arith;
    }
