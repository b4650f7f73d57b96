use Rattle.std.proofs.Common.{◌-◌}
use Rattle.mig_mem.proofs.Skips.{IsOnWay}
use Rattle.mig_mem.proofs.skipping.page_after.Given as goal

abbrev pub invariant-loop-left : goal.invariant-loop-left
invariant-loop-left l = IsOnWay l.words l.from l.count l.page l.left

abbrev pub decreases-loop-left : goal.decreases-loop-left
decreases-loop-left l = l.end - l.page
