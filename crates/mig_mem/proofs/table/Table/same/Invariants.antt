use Rattle.std.proofs.Common.{◌≡◌, take}
use Rattle.mig_mem.proofs.table.Table.same.Given as goal

abbrev pub invariant-loop-i : goal.invariant-loop-i
invariant-loop-i g l = take l.i l.self.blocks ≡ take l.i l.other.blocks
