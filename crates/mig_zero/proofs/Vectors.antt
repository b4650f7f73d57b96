-- The mask of a vector of bytes, a bit for each that is other than 0.
use Rattle.std.proofs.Common.{◌≡◌, ℕ, ◌+◌, ◌≤◌, ◌==◌, List, [], ◌∷◌, Bool, false, not, map, length, get_or, refl, arith, rules}
use Rattle.std.specs.List.{AllWithin}
use Rattle.std.proofs.lemmas.List.Elements.{All-head, All-tail, All-from_get_or}
use Rattle.std.proofs.lemmas.Simd.{none_from_empty_mask, length-chunk, get_or-chunk}
use lib.Lanes.{chunk, mask_l}
use Rattle.mig_zero.specs.Zero.{IsZero}

abbrev pub is_set : ℕ → Bool
is_set b = not (b == 0)

zero_from_unset : (b : ℕ) → is_set b ≡ false → b ≡ 0
zero_from_unset b e = grind (arith, rules)

-- if the mask of a run of bytes is empty, the run is zero
pub zero_from_empty_mask : (xs : List ℕ) (i n : ℕ) → i + n ≤ length xs → mask_l (map is_set (chunk i n xs)) ≡ 0 → AllWithin (λ b. b ≡ 0) xs i (i + n)
zero_from_empty_mask xs i n room none k d from to = zero_from_unset (get_or xs k d) (none_from_empty_mask is_set xs i n d room none k from to)

mask-zero : (xs : List ℕ) → IsZero xs → mask_l (map is_set xs) ≡ 0
mask-zero [] zero = refl
mask-zero (x ∷ xs) zero =
    let head : x ≡ 0 = All-head (λ b. b ≡ 0) x xs zero in
    let tail = mask-zero xs (All-tail (λ b. b ≡ 0) x xs zero) in
    rw head (omega (arith, tail))

-- and where the run is zero, its mask is empty
pub empty_mask_from_zero : (xs : List ℕ) (i n : ℕ) → i + n ≤ length xs → AllWithin (λ b. b ≡ 0) xs i (i + n) → mask_l (map is_set (chunk i n xs)) ≡ 0
empty_mask_from_zero xs i n room all =
    let long = length-chunk i n xs room in
    mask-zero (chunk i n xs) (All-from_get_or (λ b. b ≡ 0) (chunk i n xs) 0
    (λ k lt. rw (get_or-chunk i n xs k 0 (omega (arith, long, lt))) (all (i + k) 0 (omega arith) (omega (arith, long, lt)))))
