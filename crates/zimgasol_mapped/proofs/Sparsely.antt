-- libvirt's header, in the first bytes of a file and in all.
use Rattle.std.proofs.Common.{ℕ, ◌≡◌, ◌+◌, ◌≤◌, Bool, true, false, List, length, take, sym, ap, ◌∙◌, arith}
use Rattle.std.specs.Prelude.{◌==◌}
use Rattle.std.specs.Int.{w32, from_be_bytes, from_le_bytes}
use Rattle.std.proofs.lemmas.List.{take-take, length-take}
use Rattle.mig_mapped.proofs.Longer.{slice_front}
use Rattle.zimgasol_mapped.specs.Sparse.{field_at, is_little, IsSparseAt, IsNotSparse}

-- two files have the same header
pub record HaveHeader (a b : List ℕ) : Type 0 where
  pub long : 92 ≤ length a → 92 ≤ length b
  pub magic : take 16 a ≡ take 16 b
  pub fields : (little : Bool) (at : ℕ) → at + 4 ≤ 92 → field_at little at a ≡ field_at little at b

pub sparse_same : (a b : List ℕ) (offset : ℕ) → HaveHeader a b → IsSparseAt a offset → IsSparseAt b offset
sparse_same a b offset same h =
    let little : is_little a ≡ is_little b = ap (λ (n : ℕ). n == 2) (same.fields true 16 (omega arith)) in
    record {
      has_header = same.long h.has_header;
      has_magic = sym same.magic ∙ h.has_magic;
      has_version = sym (same.fields (is_little b) 16 (omega arith)) ∙ ap (λ (l : Bool). field_at l 16 a) (sym little) ∙ h.has_version;
      has_format = sym (same.fields (is_little b) 28 (omega arith)) ∙ ap (λ (l : Bool). field_at l 28 a) (sym little) ∙ h.has_format;
      has_length = h.has_length ∙ ap (λ (l : Bool). 92 + field_at l 20 a) little
          ∙ ap (λ (n : ℕ). 92 + n) (same.fields (is_little b) 20 (omega arith));
    }

field_front : (little : Bool) (at n : ℕ) (xs : List ℕ) → at + 4 ≤ n → field_at little at (take n xs) ≡ field_at little at xs
unfolding field_at
field_front true at n xs le = ap (from_le_bytes w32) (slice_front xs n at (at + 4) le)
field_front false at n xs le = ap (from_be_bytes w32) (slice_front xs n at (at + 4) le)

-- the first bytes have the header of all
pub front_header : (n : ℕ) (xs : List ℕ) → 92 ≤ n → HaveHeader (take n xs) xs
front_header n xs le = record {
  long = λ long. omega (arith, long, length-take n xs);
  magic = take-take 16 n xs (omega (arith, le));
  fields = λ little at within. field_front little at n xs (omega (arith, within, le));
}

pub header_front : (n : ℕ) (xs : List ℕ) → 92 ≤ n → HaveHeader xs (take n xs)
header_front n xs le = record {
  long = λ long. omega (arith, long, le, length-take n xs);
  magic = sym (take-take 16 n xs (omega (arith, le)));
  fields = λ little at within. sym (field_front little at n xs (omega (arith, within, le)));
}

pub not_sparse : (n : ℕ) (xs bytes : List ℕ) → 92 ≤ n → bytes ≡ take n xs → IsNotSparse bytes → IsNotSparse xs
not_sparse n xs bytes le is none = λ offset h.
    let front : IsSparseAt (take n xs) offset = sparse_same xs (take n xs) offset (header_front n xs le) h in
    none offset (rw is front)

pub is_sparse : (n : ℕ) (xs bytes : List ℕ) (offset : ℕ) → 92 ≤ n → bytes ≡ take n xs → IsSparseAt bytes offset → IsSparseAt xs offset
is_sparse n xs bytes offset le is h = sparse_same (take n xs) xs offset (front_header n xs le) (rw (sym is) h)
