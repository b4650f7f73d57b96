use Rattle.std.proofs.Common.{ℕ, ◌≡◌, ◌<◌, length}
use Rattle.mig_mem.specs.Lent.{lent_bytes}
use Rattle.mig_c_calls.specs.Copied.{content_of}
use Rattle.mig_c_calls.proofs.worker.are_contents.Given as goal

abbrev pub invariant-loop-i : goal.invariant-loop-i
invariant-loop-i l = (k : ℕ) → k < l.i → length (content_of (lent_bytes l.contents) k) ≡ l.size
