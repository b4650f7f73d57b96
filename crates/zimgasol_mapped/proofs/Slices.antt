-- Pieces of a file, and bytes before the stream.
use Rattle.std.proofs.Common.{ℕ, ◌≡◌, ◌+◌, ◌-◌, ◌^◌, ◌<◌, ◌≤◌, List, [], ◌∷◌, ◌++◌, length, take, drop, min}
use Rattle.std.proofs.Common.{leb, refl, sym, ap, ◌∙◌, arith, append_assoc, inl, inr, true, false}
use Rattle.std.specs.Prelude.{slice_range, ◌⊎◌, ◌==◌}
use Rattle.std.proofs.lemmas.Bool.{le-leb, eq-eqb, ne_eqb, cases_eq, cases_lt}
use Rattle.std.proofs.lemmas.List.{take-append-le, drop-append-le, take-take, drop-drop}
use Rattle.std.proofs.lemmas.List.{length-take, length-drop, length-append, take_all, append-nil, take-append-drop}
use Rattle.std.proofs.Math.Seq.{take-add}
use Rattle.zimgasol_mapped.specs.Sparse.{raw_format, with_raw_format}
use Rattle.zimgasol_mapped.specs.Course.{raw_at}

-- ---- pieces

no_bytes : (xs : List ℕ) → length xs ≡ 0 → xs ≡ []
no_bytes [] none = refl
no_bytes (x ∷ xs) none = absurd (omega (arith, none))

-- as many bytes as a piece has
pub whole_part : (len : ℕ) (xs : List ℕ) → take len xs ≡ take (length (take len xs)) xs
whole_part len xs =
    let n : ℕ = length (take len xs) in
    sym (take_all n (take len xs) (omega arith)) ∙ take-take n len xs (omega (arith, length-take len xs))

-- the number of bytes that were read
pub read_len : (n len : ℕ) (buffer xs : List ℕ) → n ≤ length buffer → take n buffer ≡ take len xs → n ≡ min len (length xs)
read_len n len buffer xs within is =
    let m : min n (length buffer) ≡ min len (length xs) = sym (length-take n buffer) ∙ ap (λ (l : List ℕ). length l) is ∙ length-take len xs in
    omega (arith, m, within)

-- if none were read there are none
pub none_left : (n len : ℕ) (buffer xs : List ℕ) → n ≤ length buffer → take n buffer ≡ take len xs → n ≡ 0 → 0 < len → xs ≡ []
none_left n len buffer xs within is none some = no_bytes xs (omega (arith, read_len n len buffer xs within is, none, some))

-- the bytes that were read, and those after them
pub read_on : (n len at : ℕ) (buffer file : List ℕ) → n ≤ length buffer → take n buffer ≡ take len (drop at file)
    → take n buffer ++ drop (at + n) file ≡ drop at file
read_on n len at buffer file within is =
    let xs : List ℕ = drop at file in
    let m : n ≡ length (take len xs) = read_len n len buffer xs within is ∙ sym (length-take len xs) in
    let part : take n buffer ≡ take n xs = is ∙ whole_part len xs ∙ ap (λ (k : ℕ). take k xs) (sym m) in
    ap (λ (l : List ℕ). l ++ drop (at + n) file) part
    ∙ ap (λ (l : List ℕ). take n xs ++ l) (sym (drop-drop n at file)) ∙ take-append-drop n xs

-- no file has bytes after the largest number of 64 bits
pub drop_saturated : (m n : ℕ) (file : List ℕ) → m ≡ min n (2 ^ 64 - 1) → length file < 2 ^ 64 → drop m file ≡ drop n file
drop_saturated m n file is small = elim (cases_lt n (2 ^ 64)) [
  | inl lt ↦ let same : m ≡ n = omega (arith, is, lt) in ap (λ (k : ℕ). drop k file) same
  | inr past ↦ no_bytes (drop m file) (omega (arith, length-drop m file, is, past, small))
      ∙ sym (no_bytes (drop n file) (omega (arith, length-drop n file, past, small)))
]

-- ---- bytes before the stream

-- a header with more after it
raw_more : (xs ys : List ℕ) → 32 ≤ length xs → with_raw_format (xs ++ ys) ≡ with_raw_format xs ++ ys
raw_more xs ys long =
    let all : leb 32 (length (xs ++ ys)) ≡ true = le-leb 32 (length (xs ++ ys)) (omega (arith, long, length-append xs ys)) in
    let here : leb 32 (length xs) ≡ true = le-leb 32 (length xs) long in
    rw all (rw here (
    ap (λ (l : List ℕ). l ++ raw_format ++ drop 32 (xs ++ ys)) (take-append-le 28 xs ys (omega (arith, long)))
    ∙ ap (λ (l : List ℕ). take 28 xs ++ raw_format ++ l) (drop-append-le 32 xs ys long)
    ∙ sym (append_assoc (take 28 xs ++ raw_format) (drop 32 xs) ys)))

-- the bytes from one on: those up to another, and those from it on
range_cut : (file : List ℕ) (at len end : ℕ) → at + len ≤ end → slice_range file at end ≡ take len (drop at file) ++ slice_range file (at + len) end
range_cut file at len end le =
    let n : end - at ≡ len + (end - (at + len)) = omega (arith, le) in
    ap (λ (m : ℕ). take m (drop at file)) n ∙ take-add len (end - (at + len)) (drop at file)
    ∙ ap (λ (l : List ℕ). take len (drop at file) ++ take (end - (at + len)) l) (drop-drop len at file)

raw_cut : (file : List ℕ) (at len end : ℕ) → at + len ≤ end → 32 ≤ length (take len (drop at file))
    → raw_at at (slice_range file at end) ≡ raw_at at (take len (drop at file)) ++ slice_range file (at + len) end
raw_cut file at len end le long = elim (cases_eq at 0) [
  | inl zero ↦ let t : (at == 0) ≡ true = eq-eqb at 0 zero in
      rw t (ap with_raw_format (range_cut file at len end le) ∙ raw_more (take len (drop at file)) (slice_range file (at + len) end) long)
  | inr some ↦ let f : (at == 0) ≡ false = ne_eqb at 0 some in rw f (range_cut file at len end le)
]

-- The bytes before the stream are given in pieces: all of them at once, or those of the header in
-- the first one.
pub header_cut : (file : List ℕ) (at len end : ℕ) → at + len ≤ end → end ≤ length file → (len ≡ end - at) ⊎ (32 ≤ len)
    → raw_at at (slice_range file at end) ≡ raw_at at (take len (drop at file)) ++ slice_range file (at + len) end
header_cut file at len end le fits (inl all) =
    let none : end - (at + len) ≡ 0 = omega (arith, all, le) in
    let first : List ℕ = raw_at at (take len (drop at file)) in
    ap (λ (m : ℕ). raw_at at (take m (drop at file))) (sym all) ∙ sym (append-nil first)
    ∙ ap (λ (m : ℕ). first ++ take m (drop (at + len) file)) (sym none)
header_cut file at len end le fits (inr long) =
    raw_cut file at len end le (omega (arith, long, length-take len (drop at file), length-drop at file, le, fits))

-- after the first piece the bytes are as in the file
pub later_raw : (at len : ℕ) (bytes : List ℕ) → 0 < len → raw_at (at + len) bytes ≡ bytes
later_raw at len bytes some =
    let f : (at + len == 0) ≡ false = ne_eqb (at + len) 0 (λ e. absurd (omega (arith, e, some))) in rw f refl
