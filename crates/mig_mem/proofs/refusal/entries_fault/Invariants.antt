use Rattle.std.proofs.Common.{ℕ, ◌≡◌, ◌<◌, None, map}
use Rattle.mig_mem.specs.RamTable.{entry_block}
use Rattle.mig_mem.specs.Refusal.{entry_refusal}
use Rattle.mig_mem.proofs.refusal.entries_fault.Given as goal

abbrev pub invariant-loop-i : goal.invariant-loop-i
invariant-loop-i g l = (k : ℕ) → k < l.i → entry_refusal (map entry_block l.list) k ≡ None
