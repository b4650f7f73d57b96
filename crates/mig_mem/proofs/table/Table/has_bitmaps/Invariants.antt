use Rattle.std.proofs.Common.{ℕ, ◌<◌, ◌≤◌, ◌*◌, length}
use Rattle.mig_mem.specs.RamTable.{block}
use Rattle.mig_mem.specs.Bitmaps.{bitmap_of, lent_words}
use Rattle.mig_mem.proofs.table.Table.has_bitmaps.Given as goal

abbrev pub invariant-loop-i : goal.invariant-loop-i
invariant-loop-i g l = (k : ℕ) → k < l.i → (block l.self.blocks k).pages ≤ 64 * length (bitmap_of (lent_words l.bitmaps) k)
