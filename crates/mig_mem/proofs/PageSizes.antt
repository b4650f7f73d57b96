-- What every page size keeps.
use Rattle.std.proofs.Common.{ℕ, ◌<◌, ◌≤◌, ◌+◌, ◌*◌, ◌/◌, arith, inl, inr}
use Rattle.std.proofs.Math.Nat.{div-lt_iff_lt-mul}
use Rattle.mig_mem.specs.PageSize.{IsPageSize}

-- a page has at least one byte
pub page_size_some : (size : ℕ) → IsPageSize size → 0 < size
page_size_some size is = elim is [ inl e ↦ omega arith | inr e ↦ omega arith ]

-- a page has at most 8192 bytes
pub page_size_small : (size : ℕ) → IsPageSize size → size ≤ 8192
page_size_small size is = elim is [ inl e ↦ omega arith | inr e ↦ omega arith ]

-- a page before others ends where they begin at the latest
pub page_before : (size p q : ℕ) → q < p → q * size + size ≤ p * size
page_before size p q h = grind arith

-- the page that an offset lies in
pub page_of_offset : (size pages offset : ℕ) → 0 < size → offset < pages * size → offset / size < pages
page_of_offset size pages offset some h = (div-lt_iff_lt-mul {k = size} {x = offset} {y = pages} some).1 h
