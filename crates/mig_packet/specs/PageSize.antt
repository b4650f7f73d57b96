-- The sizes of a guest's page, and the sizes of a packet that follow from them.
use Rattle.std.specs.Prelude.{ℕ, ◌≡◌, ◌⊎◌, ◌+◌, ◌*◌, ◌/◌}
use native.Mathlib.Nat.{ℕ_set}
use mathlib.Core.Logic.{inl, inr}
use Rattle.std.proofs.Common.{ap, sym, ◌∙◌, arith}

abbrev pub IsPageSize : ℕ → Type 0
IsPageSize size = (size ≡ 4096) ⊎ (size ≡ 8192)

-- how many pages a packet may have, and how many offsets it always has: 128, or 64 of 8 KiB
abbrev pub page_limit : ℕ → ℕ
page_limit page_size = 524288 / page_size

-- how many bytes a packet has before its pages: 1344, or 832
abbrev pub head_len : ℕ → ℕ
head_len page_size = 320 + 8 * page_limit page_size

-- There is at most one proof that a size is one of the two, as a type requires of the facts that it
-- keeps. This proof is here since the field of a type can cite its crate's specs/ alone.
pub IsPageSize-prop : (size : ℕ) → IsProp (IsPageSize size)
IsPageSize-prop size (inl e) (inl f) = ap inl (ℕ_set size 4096 e f)
IsPageSize-prop size (inl e) (inr f) = absurd (let two : 4096 ≡ 8192 = sym e ∙ f in omega (arith, two))
IsPageSize-prop size (inr e) (inl f) = absurd (let two : 4096 ≡ 8192 = sym f ∙ e in omega (arith, two))
IsPageSize-prop size (inr e) (inr f) = ap inr (ℕ_set size 8192 e f)
