-- Bytes as blocks of n bytes each, and what is left after them.
use Rattle.std.proofs.Common.{◌≡◌, ℕ, zero, suc, ◌+◌, ◌*◌, List, ◌++◌, take, drop, sym, ap, ◌∙◌, arith}
use Rattle.std.specs.List.{All}
use Rattle.std.specs.Simd.{first_chunks}
use Rattle.std.proofs.lemmas.List.{take-append-drop, drop-drop}
use Rattle.std.proofs.lemmas.List.Elements.{All-nil, All-cons, All-head, All-tail, All-append, All-take, All-drop, All-same}
use Rattle.mig_zero.specs.Zero.{IsZero}

abbrev IsZeroByte : ℕ → Type 0
IsZeroByte b = b ≡ 0

-- if the first k blocks are zero, and what is left after them, the bytes are
pub zero_from_blocks : (n k : ℕ) (xs : List ℕ) → All IsZero (first_chunks n k xs) → IsZero (drop (k * n) xs) → IsZero xs
zero_from_blocks n zero xs blocks rest =
    let none : zero * n ≡ 0 = omega arith in
    All-same IsZeroByte xs (drop (zero * n) xs) (ap (λ (i : ℕ). drop i xs) (sym none)) rest
zero_from_blocks n (suc k) xs blocks rest =
    let first = All-head IsZero (take n xs) (first_chunks n k (drop n xs)) blocks in
    let later = All-tail IsZero (take n xs) (first_chunks n k (drop n xs)) blocks in
    let far : n + k * n ≡ suc k * n = omega arith in
    let left = All-same IsZeroByte (drop (k * n) (drop n xs)) (drop (suc k * n) xs) (drop-drop (k * n) n xs ∙ ap (λ (i : ℕ). drop i xs) far) rest in
    All-same IsZeroByte xs (take n xs ++ drop n xs) (sym (take-append-drop n xs))
    (All-append IsZeroByte (take n xs) (drop n xs) first (zero_from_blocks n k (drop n xs) later left))

-- if the bytes are zero, each block is
pub blocks_from_zero : (n k : ℕ) (xs : List ℕ) → IsZero xs → All IsZero (first_chunks n k xs)
blocks_from_zero n zero xs whole = All-nil IsZero
blocks_from_zero n (suc k) xs whole =
    All-cons IsZero (take n xs) (first_chunks n k (drop n xs)) (All-take IsZeroByte n xs whole)
    (blocks_from_zero n k (drop n xs) (All-drop IsZeroByte n xs whole))
