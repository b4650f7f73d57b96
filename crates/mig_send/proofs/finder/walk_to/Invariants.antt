use Rattle.std.proofs.Common.{◌≤◌, ◌-◌}
use Rattle.mig_send.specs.Finding.{IsWalk}
use Rattle.mig_send.proofs.finder.walk_to.Given as goal

abbrev pub invariant-loop-walk : goal.invariant-loop-walk
invariant-loop-walk g l = record {
  is_walk : IsWalk l.limit l.dirty.marked l.walk;
  is_before : l.walk.at ≤ l.index;
}

abbrev pub decreases-loop-walk : goal.decreases-loop-walk
decreases-loop-walk g l = l.index - l.walk.at
