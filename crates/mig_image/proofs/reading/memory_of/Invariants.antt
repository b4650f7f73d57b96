use Rattle.std.proofs.Common.{◌≡◌, ◌*◌, take, drop}
use Rattle.mig_mem.specs.RamTable.{total_pages}
use Rattle.mig_image.proofs.FirstPages.{first_blocks}
use Rattle.mig_image.proofs.reading.memory_of.Given as goal

abbrev pub invariant-loop-block : goal.invariant-loop-block
invariant-loop-block g l = (l.memory ≡ first_blocks l.table l.bytes l.block)
    × (l.left ≡ drop (total_pages (take l.block l.table.blocks) * l.table.page_size) l.bytes)
