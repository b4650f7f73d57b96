use Rattle.std.proofs.Common.{◌≡◌, ◌<◌, take}
use Rattle.mig_mem.specs.RamTable.{total_pages}
use Rattle.mig_c_mapped.proofs.send.total_of.Given as goal

abbrev pub invariant-loop-i : goal.invariant-loop-i
invariant-loop-i l = (l.pages ≡ total_pages (take l.i l.table.blocks)) × (0 < l.i → 0 < l.pages)
