use Rattle.std.proofs.Common.{◌≡◌, map}
use Rattle.std.specs.List.{range_with_len}
use Rattle.mig_mem.specs.Buffers.{buffers_of}
use Rattle.mig_mem.proofs.Sets.{no_row}
use Rattle.mig_mem.proofs.dirty.Dirty.none.Given as goal

abbrev pub invariant-loop-i : goal.invariant-loop-i
invariant-loop-i g l = buffers_of l.words.items ≡ map (no_row l.table) (range_with_len 0 l.i)
