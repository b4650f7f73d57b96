use Rattle.std.proofs.Common.{length, ◌-◌, ◌≡◌, ◌≤◌}
use Rattle.mig_uses.proofs.straight.fill.Given as goal

abbrev pub invariant-loop-len : goal.invariant-loop-len
invariant-loop-len g l = record { same : length l.piece ≡ length l.fn.piece; within : l.len ≤ length l.piece }

abbrev pub decreases-loop-len : goal.decreases-loop-len
decreases-loop-len g l = length l.initial.piece - l.len
