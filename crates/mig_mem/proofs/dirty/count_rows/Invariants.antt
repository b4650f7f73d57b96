use Rattle.std.proofs.Common.{◌≡◌, ◌≤◌, ◌*◌, ◌-◌, ◌^◌, take}
use Rattle.std.specs.List.{sum_by}
use Rattle.mig_mem.specs.Marks.{marks_in}
use Rattle.mig_mem.specs.Buffers.{buffers_of}
use Rattle.mig_mem.proofs.dirty.count_rows.Given as goal

abbrev pub invariant-loop-row : goal.invariant-loop-row
invariant-loop-row g l = record {
  counts : l.count ≡ sum_by marks_in (take l.row-index (buffers_of l.rows));
  few : l.count ≤ l.row-index * (2 ^ 56 - 64);
}
