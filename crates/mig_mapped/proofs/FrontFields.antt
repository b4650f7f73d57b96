-- The parts of a front at their places: numbers, names, and what doesn't begin there.
use Rattle.std.proofs.Common.{ℕ, ◌≡◌, ◌+◌, ◌-◌, ◌^◌, ◌<◌, ◌≤◌, List, ◌++◌, length, take, drop, get_or}
use Rattle.std.proofs.Common.{Fits, w8, sym, ap, ◌∙◌, inl, inr, arith}
use Rattle.std.specs.Prelude.{slice_range}
use Rattle.std.specs.Int.{w32, w64, from_be_bytes}
use Rattle.std.proofs.Math.Facts.{Fits-lt-pow}
use Rattle.std.proofs.lemmas.Bool.{cases_lt}
use Rattle.std.proofs.lemmas.List.{length-drop, length-take-le, get_or-take, get_or-drop, get_or_past, drop-drop, take-append-drop, take_all}
use Rattle.std.proofs.lemmas.Nat.{be_bytes_4, be_bytes_8, from_be_bytes-to_be_bytes_4, from_be_bytes-to_be_bytes_8}
use Rattle.mig_stream.specs.Fields.{be32, be64, be32_at, be64_at}

-- each is a byte, and so is the 0 past the end
abbrev pub IsBytes : List ℕ → Type 0
IsBytes bytes = (i : ℕ) → get_or bytes i 0 < 256

pub bytes_fit : (bytes : List ℕ) → ((i : ℕ) → Fits w8 (get_or bytes i 0)) → IsBytes bytes
bytes_fit bytes fit i = Fits-lt-pow (fit i)

-- a part of bytes
pub length_part : (bytes : List ℕ) (at n : ℕ) → at + n ≤ length bytes → length (take n (drop at bytes)) ≡ n
length_part bytes at n le = length-take-le n (drop at bytes) (omega (arith, length-drop at bytes))

bytes_of_part : (bytes : List ℕ) (at n : ℕ) → at + n ≤ length bytes → IsBytes bytes → IsBytes (take n (drop at bytes))
bytes_of_part bytes at n le all i =
    elim (cases_lt i n) [
      | inl h ↦ omega (arith, get_or-take n (drop at bytes) i 0 h, get_or-drop at bytes i 0, all (at + i))
      | inr h ↦ omega (arith, get_or_past (take n (drop at bytes)) i 0 (omega (arith, length_part bytes at n le)))
    ]

-- all bytes from a place on, as a part that goes to the end
pub to_end : (bytes : List ℕ) (at : ℕ) → take (length bytes - at) (drop at bytes) ≡ drop at bytes
to_end bytes at = take_all (length bytes - at) (drop at bytes) (omega (arith, length-drop at bytes))

-- bytes from a place on begin with the part
pub part_next : (bytes : List ℕ) (at n : ℕ) → drop at bytes ≡ take n (drop at bytes) ++ drop (at + n) bytes
part_next bytes at n = sym (take-append-drop n (drop at bytes)) ∙ ap (λ (l : List ℕ). take n (drop at bytes) ++ l) (drop-drop n at bytes)

-- and with the number that is read there
pub next32 : (bytes : List ℕ) (at : ℕ) → at + 4 ≤ length bytes → IsBytes bytes → drop at bytes ≡ be32 (be32_at at bytes) ++ drop (at + 4) bytes
unfolding be32_at
next32 bytes at le all =
    let four : at + 4 - at ≡ 4 = omega arith in
    let same : slice_range bytes at (at + 4) ≡ take 4 (drop at bytes) = ap (λ (n : ℕ). take n (drop at bytes)) four in
    part_next bytes at 4 ∙ ap (λ (l : List ℕ). l ++ drop (at + 4) bytes)
    (sym (be_bytes_4 (take 4 (drop at bytes)) (from_be_bytes w32 (slice_range bytes at (at + 4))) (length_part bytes at 4 le)
    (bytes_of_part bytes at 4 le all) (ap (from_be_bytes w32) same)))

pub next64 : (bytes : List ℕ) (at : ℕ) → at + 8 ≤ length bytes → IsBytes bytes → drop at bytes ≡ be64 (be64_at at bytes) ++ drop (at + 8) bytes
unfolding be64_at
next64 bytes at le all =
    let eight : at + 8 - at ≡ 8 = omega arith in
    let same : slice_range bytes at (at + 8) ≡ take 8 (drop at bytes) = ap (λ (n : ℕ). take n (drop at bytes)) eight in
    part_next bytes at 8 ∙ ap (λ (l : List ℕ). l ++ drop (at + 8) bytes)
    (sym (be_bytes_8 (take 8 (drop at bytes)) (from_be_bytes w64 (slice_range bytes at (at + 8))) (length_part bytes at 8 le)
    (bytes_of_part bytes at 8 le all) (ap (from_be_bytes w64) same)))

-- a number that stands there is the one that is read
pub read32 : (bytes rest : List ℕ) (at n : ℕ) → drop at bytes ≡ be32 n ++ rest → n < 2 ^ 32 → be32_at at bytes ≡ n
unfolding be32_at
read32 bytes rest at n e small =
    let four : at + 4 - at ≡ 4 = omega arith in
    ap (λ (k : ℕ). from_be_bytes w32 (take k (drop at bytes))) four ∙ ap (λ (l : List ℕ). from_be_bytes w32 (take 4 l)) e
    ∙ from_be_bytes-to_be_bytes_4 n small

pub read64 : (bytes rest : List ℕ) (at n : ℕ) → drop at bytes ≡ be64 n ++ rest → n < 2 ^ 64 → be64_at at bytes ≡ n
unfolding be64_at
read64 bytes rest at n e small =
    let eight : at + 8 - at ≡ 8 = omega arith in
    ap (λ (k : ℕ). from_be_bytes w64 (take k (drop at bytes))) eight ∙ ap (λ (l : List ℕ). from_be_bytes w64 (take 8 l)) e
    ∙ from_be_bytes-to_be_bytes_8 n small

-- a number of four bytes is below 2^32
pub small32 : (bytes : List ℕ) (at : ℕ) → at + 4 ≤ length bytes → IsBytes bytes → be32_at at bytes < 2 ^ 32
unfolding be32_at
small32 bytes at le all =
    let four : at + 4 - at ≡ 4 = omega arith in
    let part : List ℕ = take 4 (drop at bytes) in
    let all_part : IsBytes part = bytes_of_part bytes at 4 le all in
    let small : from_be_bytes w32 part < 2 ^ 32 = omega (arith, all_part 0, all_part 1, all_part 2, all_part 3) in
    let same : from_be_bytes w32 (slice_range bytes at (at + 4)) ≡ from_be_bytes w32 part = ap (λ (k : ℕ). from_be_bytes w32 (take k (drop at bytes))) four in
    omega (arith, same, small)
