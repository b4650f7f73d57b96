use Rattle.std.proofs.Common.{◌≡◌, ◌*◌}
use Rattle.std.specs.List.{range_with_len, count_by}
use Rattle.mig_mem.specs.Marks.{is_set}
use Rattle.mig_mem.proofs.marks.count.Given as goal

abbrev pub invariant-loop-i : goal.invariant-loop-i
invariant-loop-i l = l.count ≡ count_by (is_set l.words) (range_with_len 0 (64 * l.i))
