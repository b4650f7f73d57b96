-- The bytes of the pages of a table are those that a size list may have.
use Rattle.std.proofs.Common.{ℕ, ◌*◌, ◌<◌, ◌≤◌, ◌^◌, sym, subst, inl, inr, arith}
use Rattle.mig_mem.specs.PageSize.{IsPageSize}
use Rattle.mig_mapped.specs.Front.{IsTotal}

pub total_of_pages : (pages size : ℕ) → IsPageSize size → 0 < pages → pages * size ≤ 2 ^ 40 → IsTotal (pages * size)
total_of_pages pages size is some room = elim is [
  | inl e ↦ let room₁ : pages * 4096 ≤ 2 ^ 40 = subst (λ (n : ℕ). pages * n ≤ 2 ^ 40) e room in
      subst (λ (n : ℕ). IsTotal (pages * n)) (sym e) (record { is_some = omega (arith, some); is_whole = omega arith; is_limited = room₁ })
  | inr e ↦ let room₁ : pages * 8192 ≤ 2 ^ 40 = subst (λ (n : ℕ). pages * n ≤ 2 ^ 40) e room in
      subst (λ (n : ℕ). IsTotal (pages * n)) (sym e) (record { is_some = omega (arith, some); is_whole = omega arith; is_limited = room₁ })
]
