use Rattle.std.proofs.Common.{◌≡◌, ◌-◌, ◌≤◌, length, take, drop}
use Rattle.std.specs.Prelude.{IsTrue}
use Rattle.mig_zero.specs.Zero.{IsZero}
use Rattle.mig_image.proofs.file.run_len.Given as goal

abbrev pub invariant-loop-page : goal.invariant-loop-page
invariant-loop-page l = (length l.rest ≤ length l.bytes) × (l.rest ≡ drop (length l.bytes - length l.rest) l.bytes)
    × (IsTrue l.of_zeros → IsZero (take (length l.bytes - length l.rest) l.bytes))

abbrev pub decreases-loop-page : goal.decreases-loop-page
decreases-loop-page l = length l.rest
