-- Fields at the beginning of bytes and after others, whatever surrounds them.
use Rattle.std.proofs.Common.{◌≡◌, ℕ, ◌+◌, ◌-◌, ◌≤◌, List, ◌++◌, length, take, drop, sym, ap, ◌∙◌, arith}
use Rattle.std.specs.Prelude.{slice_range}
use Rattle.std.specs.Int.{w32, w64, from_be_bytes}
use Rattle.std.proofs.lemmas.List.{take-append-le, drop-append-le, length-drop}
use Rattle.std.proofs.Math.Seq.{drop-append-add}
use Rattle.mig_packet.specs.Fields.{be32_at, be64_at}

-- ---- at the front

-- a range within the first bytes stays if more bytes follow
pub range-front : (a b : List ℕ) (i j : ℕ) → i ≤ j → j ≤ length a → slice_range (a ++ b) i j ≡ slice_range a i j
range-front a b i j le in_a =
    ap (take (j - i)) (drop-append-le i a b (omega arith)) ∙ take-append-le (j - i) (drop i a) b (omega (arith, length-drop i a))

-- a number of four bytes stays if more bytes follow
pub be32_at-front : (at : ℕ) (a b : List ℕ) → at + 4 ≤ length a → be32_at at (a ++ b) ≡ be32_at at a
unfolding be32_at
be32_at-front at a b le = ap (from_be_bytes w32) (range-front a b at (at + 4) (omega arith) le)

-- ---- after other bytes

-- a range after the first bytes is a range of what follows them
pub range-past : (x y : List ℕ) (m i j : ℕ) → length x ≡ m → slice_range (x ++ y) (m + i) (m + j) ≡ slice_range y i j
range-past x y m i j len =
    let d : drop (m + i) (x ++ y) ≡ drop i y = ap (λ (n : ℕ). drop (n + i) (x ++ y)) (sym len) ∙ drop-append-add x y i in
    let n : (m + j) - (m + i) ≡ j - i = omega arith in
    ap (take ((m + j) - (m + i))) d ∙ ap (λ (k : ℕ). take k (drop i y)) n

-- a number of eight bytes after the first bytes is one of what follows them
pub be64_at-past : (x y : List ℕ) (m k : ℕ) → length x ≡ m → be64_at (m + k) (x ++ y) ≡ be64_at k y
unfolding be64_at
be64_at-past x y m k len =
    let n : (m + k) + 8 ≡ m + (k + 8) = omega arith in
    ap (λ (e : ℕ). from_be_bytes w64 (slice_range (x ++ y) (m + k) e)) n ∙ ap (from_be_bytes w64) (range-past x y m k (k + 8) len)
