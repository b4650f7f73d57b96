use Rattle.std.proofs.Common.{◌≡◌, take, map}
use Rattle.mig_mem.specs.RamTable.{entry_block}
use Rattle.mig_mapped.specs.Block.{ram_block}
use Rattle.mig_mapped.proofs.index.table_from.Given as goal

abbrev pub invariant-loop-block : goal.invariant-loop-block
invariant-loop-block g l = map entry_block l.list.items ≡ map ram_block (take l.block-index l.blocks)
