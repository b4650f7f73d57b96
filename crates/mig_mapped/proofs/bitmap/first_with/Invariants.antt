use Rattle.std.proofs.Common.{ℕ, ◌≡◌, ◌<◌, ◌≤◌}
use Rattle.std.specs.Prelude.{not}
use Rattle.mig_mapped.specs.Bitmap.{is_set}
use Rattle.mig_mapped.proofs.bitmap.first_with.Given as goal

abbrev pub invariant-loop-page : goal.invariant-loop-page
invariant-loop-page l = (q : ℕ) → l.from ≤ q → q < l.page → is_set l.order l.bitmap q ≡ not l.bit
