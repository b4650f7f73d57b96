use Rattle.std.proofs.Common.{ℕ, ◌≡◌, ◌<◌, false}
use Rattle.std.specs.Str.{bytes_eq}
use Rattle.mig_mem.specs.RamTable.{block}
use Rattle.mig_mem.proofs.table.Table.find_in_turn.Given as goal

abbrev pub invariant-loop-i : goal.invariant-loop-i
invariant-loop-i g l = (k : ℕ) → k < l.i → bytes_eq (block l.self.blocks k).id l.id ≡ false
