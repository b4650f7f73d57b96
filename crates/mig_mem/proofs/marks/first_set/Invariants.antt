use Rattle.std.proofs.Common.{ℕ, ◌≡◌, ◌*◌, ◌<◌, ◌≤◌, false}
use Rattle.mig_mem.specs.Marks.{is_set}
use Rattle.mig_mem.proofs.marks.first_set.Given as goal

abbrev pub invariant-loop-i : goal.invariant-loop-i
invariant-loop-i l = record {
  past : l.from ≤ l.i * 64;
  none : (q : ℕ) → l.from ≤ q → q < l.i * 64 → is_set l.words q ≡ false;
}
