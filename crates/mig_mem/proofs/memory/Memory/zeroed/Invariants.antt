use Rattle.std.proofs.Common.{◌≡◌, map}
use Rattle.std.specs.List.{range_with_len}
use Rattle.mig_mem.proofs.Kept.{zero_block}
use Rattle.mig_mem.proofs.memory.Memory.zeroed.Given as goal

abbrev pub invariant-loop-i : goal.invariant-loop-i
invariant-loop-i g l = l.blocks.items ≡ map (zero_block l.table) (range_with_len 0 l.i)
