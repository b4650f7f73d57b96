use Rattle.std.proofs.Common.{◌≡◌, take, map}
use Rattle.mig_mem.specs.RamTable.{entry_block}
use Rattle.mig_stream.proofs.entries.table_of.Given as goal

abbrev pub invariant-loop-block : goal.invariant-loop-block
invariant-loop-block g l = map entry_block l.list.items ≡ take l.block-index l.blocks
