use Rattle.std.proofs.Common.{◌≡◌, map, take}
use Rattle.mig_mem.specs.RamTable.{entry_block}
use Rattle.mig_c_calls.specs.Blocks.{block_in}
use Rattle.mig_c_calls.proofs.block.entries.Given as goal

abbrev pub invariant-loop-named : goal.invariant-loop-named
invariant-loop-named l = map entry_block l.list.items ≡ map block_in (take l.named-index l.blocks)
