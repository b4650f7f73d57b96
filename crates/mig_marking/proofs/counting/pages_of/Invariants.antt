use Rattle.std.proofs.Common.{◌≡◌, take}
use Rattle.mig_mem.specs.RamTable.{total_pages}
use Rattle.mig_marking.proofs.counting.pages_of.Given as goal

abbrev pub invariant-loop-i : goal.invariant-loop-i
invariant-loop-i g l = l.pages ≡ total_pages (take l.i l.table.blocks)
