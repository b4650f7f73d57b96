-- A sum of lengths that stops at the largest number.
use Rattle.std.proofs.Common.{ℕ, ◌≡◌, ◌+◌, min, inl, inr, sym, ap, ◌∙◌, arith}
use Rattle.std.proofs.Math.Nat.{min-eq_left, min-eq_right}
use Rattle.std.proofs.lemmas.Bool.{cases_lt}

-- a sum that stops at the largest number is the same if its first part stops there, too
pub saturated : (a n most : ℕ) → min (min a most + n) most ≡ min (a + n) most
saturated a n most = elim (cases_lt a most) [
  | inl within ↦ ap (λ (k : ℕ). min (k + n) most) (min-eq_left (omega (arith, within)))
  | inr beyond ↦ ap (λ (k : ℕ). min (k + n) most) (min-eq_right beyond) ∙ min-eq_right (omega arith) ∙ sym (min-eq_right (omega (arith, beyond)))
]
