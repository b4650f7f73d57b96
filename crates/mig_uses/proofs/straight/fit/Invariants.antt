use Rattle.std.proofs.Common.{ℕ, ◌≡◌, ◌<◌, ◌*◌, length}
use Rattle.mig_mem.specs.RamTable.{block}
use Rattle.mig_mem.specs.Lent.{bytes_of_block, mut_lent_bytes}
use Rattle.mig_uses.proofs.straight.fit.Given as goal

abbrev pub invariant-loop-i : goal.invariant-loop-i
invariant-loop-i g l = (k : ℕ) → k < l.i → length (bytes_of_block (mut_lent_bytes l.blocks) k) ≡ (block l.table.blocks k).pages * l.table.page_size
