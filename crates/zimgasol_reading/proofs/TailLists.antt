-- The last bytes of lists, and their first ones.
use Rattle.std.proofs.Common.{ℕ, ◌≡◌, ◌+◌, ◌-◌, ◌<◌, ◌≤◌, inl, inr, List, [], ◌∷◌, ◌++◌, length, take, drop, replicate, min, refl, sym, ap, ◌∙◌, arith, All}
use Rattle.std.proofs.lemmas.Bool.{cases_lt}
use Rattle.std.proofs.lemmas.List.{append-nil, append_assoc, drop_all, drop-append-le, length-append, length-drop, length-replicate, length-take}
use Rattle.std.proofs.lemmas.List.{drop-replicate, replicate_more, take_all, take-append-drop, take-append-le}
use Rattle.std.proofs.lemmas.List.Elements.{All-head, All-tail}
use Rattle.std.proofs.Math.Seq.{drop-append-add, take-append-add}
use Rattle.zimgasol_reading.specs.TailSeen.{last_of}

pub drop_append : (n : ℕ) (xs ys : List ℕ) → drop n (xs ++ ys) ≡ drop n xs ++ drop (n - length xs) ys
drop_append n xs ys = elim (cases_lt n (length xs)) [
  | inl less ↦
      let none : n - length xs ≡ 0 = omega (arith, less) in
      drop-append-le n xs ys (omega (arith, less)) ∙ ap (λ (k : ℕ). drop n xs ++ drop k ys) (sym none)
  | inr past ↦
      let all : n ≡ length xs + (n - length xs) = omega (arith, past) in
      ap (λ (k : ℕ). drop k (xs ++ ys)) all ∙ drop-append-add xs ys (n - length xs)
      ∙ ap (λ (l : List ℕ). l ++ drop (n - length xs) ys) (sym (drop_all n xs past))
]

pub take_append : (n : ℕ) (xs ys : List ℕ) → take n xs ++ take (n - length (take n xs)) ys ≡ take n (xs ++ ys)
take_append n xs ys = elim (cases_lt n (length xs)) [
  | inl less ↦
      let none : n - length (take n xs) ≡ 0 = omega (arith, less, length-take n xs) in
      ap (λ (k : ℕ). take n xs ++ take k ys) none ∙ append-nil (take n xs) ∙ sym (take-append-le n xs ys (omega (arith, less)))
  | inr past ↦
      let whole : take n xs ≡ xs = take_all n xs past in
      let all : n ≡ length xs + (n - length xs) = omega (arith, past) in
      ap (λ (l : List ℕ). l ++ take (n - length l) ys) whole ∙ sym (take-append-add xs ys (n - length xs))
      ∙ ap (λ (k : ℕ). take k (xs ++ ys)) (sym all)
]

pub last_past : (n : ℕ) (front rest : List ℕ) → n ≤ length rest → last_of n (front ++ rest) ≡ last_of n rest
last_past n front rest enough =
    let at : length (front ++ rest) - n ≡ length front + (length rest - n) = omega (arith, enough, length-append front rest) in
    ap (λ (k : ℕ). drop k (front ++ rest)) at ∙ drop-append-add front rest (length rest - n)

pub last_whole : (n : ℕ) (xs : List ℕ) → length xs ≤ n → last_of n xs ≡ xs
last_whole n xs few = ap (λ (k : ℕ). drop k xs) (let none : length xs - n ≡ 0 = omega (arith, few) in none)

pub length-last : (n : ℕ) (xs : List ℕ) → length (last_of n xs) ≡ min n (length xs)
length-last n xs = omega (arith, length-drop (length xs - n) xs)

split_last : (n : ℕ) (xs : List ℕ) → xs ≡ take (length xs - n) xs ++ last_of n xs
split_last n xs = sym (take-append-drop (length xs - n) xs)

-- of the last bytes the last ones
pub last_last : (m n : ℕ) (xs : List ℕ) → m ≤ n → last_of m (last_of n xs) ≡ last_of m xs
last_last m n xs less = elim (cases_lt n (length xs)) [
  | inl long ↦ sym (ap (λ (l : List ℕ). last_of m l) (split_last n xs)
      ∙ last_past m (take (length xs - n) xs) (last_of n xs) (omega (arith, less, long, length-last n xs)))
  | inr short ↦ ap (λ (l : List ℕ). last_of m l) (last_whole n xs short)
]

-- the last bytes depend on the last ones of each part alone
pub last_front : (n : ℕ) (xs ys : List ℕ) → last_of n (last_of n xs ++ ys) ≡ last_of n (xs ++ ys)
last_front n xs ys = elim (cases_lt n (length xs)) [
  | inl long ↦
      let enough : n ≤ length (last_of n xs ++ ys) = omega (arith, long, length-last n xs, length-append (last_of n xs) ys) in
      sym (ap (λ (l : List ℕ). last_of n (l ++ ys)) (split_last n xs)
      ∙ ap (λ (l : List ℕ). last_of n l) (append_assoc (take (length xs - n) xs) (last_of n xs) ys)
      ∙ last_past n (take (length xs - n) xs) (last_of n xs ++ ys) enough)
  | inr short ↦ ap (λ (l : List ℕ). last_of n (l ++ ys)) (last_whole n xs short)
]

pub last_back : (n : ℕ) (xs ys : List ℕ) → last_of n (xs ++ last_of n ys) ≡ last_of n (xs ++ ys)
last_back n xs ys = elim (cases_lt n (length ys)) [
  | inl long ↦ last_past n xs (last_of n ys) (omega (arith, long, length-last n ys)) ∙ last_last n n ys (omega arith)
      ∙ sym (last_past n xs ys (omega (arith, long)))
  | inr short ↦ ap (λ (l : List ℕ). last_of n (xs ++ l)) (last_whole n ys short)
]

-- the last ones of both parts, by their lengths
pub last_parts : (n : ℕ) (xs ys end : List ℕ) → end ≡ drop (length ys - n) ys → drop (length xs - (n - length end)) xs ++ end ≡ last_of n (xs ++ ys)
last_parts n xs ys end is =
    let count : length end ≡ length ys - (length ys - n) = ap (λ (l : List ℕ). length l) is ∙ length-drop (length ys - n) ys in
    elim (cases_lt n (length ys)) [
      | inl long ↦
          let all : length xs - (n - length end) ≡ length xs = omega (arith, count, long) in
          ap (λ (k : ℕ). drop k xs ++ end) all ∙ ap (λ (l : List ℕ). l ++ end) (drop_all (length xs) xs (omega arith)) ∙ is
          ∙ sym (last_past n xs ys (omega (arith, long)))
      | inr short ↦
          let whole : end ≡ ys = is ∙ last_whole n ys short in
          let from : length xs - (n - length end) ≡ length (xs ++ ys) - n = omega (arith, count, short, length-append xs ys) in
          ap (λ (k : ℕ). drop k xs ++ end) from ∙ ap (λ (l : List ℕ). drop (length (xs ++ ys) - n) xs ++ l) whole
          ∙ sym (drop-append-le (length (xs ++ ys) - n) xs ys (omega (arith, short, length-append xs ys)))
    ]

-- the last byte of the last ones
pub last_byte : (n : ℕ) (front rest : List ℕ) → 1 ≤ n → 1 ≤ length rest → last_of 1 (last_of n (front ++ rest)) ≡ last_of 1 rest
last_byte n front rest some there = last_last 1 n (front ++ rest) some ∙ last_past 1 front rest there

-- ---- zeros

pub zeros_are : (bytes : List ℕ) → All (λ byte. byte ≡ 0) bytes → bytes ≡ replicate (length bytes) 0
zeros_are [] zero = refl
zeros_are (b ∷ bytes) zero =
    ap (λ (k : ℕ). k ∷ bytes) (All-head (λ byte. byte ≡ 0) b bytes zero)
    ∙ ap (λ (l : List ℕ). 0 ∷ l) (zeros_are bytes (All-tail (λ byte. byte ≡ 0) b bytes zero))

pub last_zeros : (n : ℕ) → last_of 6 (replicate n 0) ≡ last_of 6 (replicate (min n 6) 0)
last_zeros n =
    let few : length (replicate {A = ℕ} (min n 6) 0) ≡ min n 6 = length-replicate {A = ℕ} (min n 6) 0 in
    drop-replicate (length (replicate n 0) - 6) n 0
    ∙ ap (λ (k : ℕ). replicate k 0) (let same : n - (length (replicate {A = ℕ} n 0) - 6) ≡ min n 6 = omega (arith, length-replicate {A = ℕ} n 0) in same)
    ∙ sym (last_whole 6 (replicate (min n 6) 0) (omega (arith, few)))

pub zeros_end : (n : ℕ) → 0 < n → (front : List ℕ) × (replicate n 0 ≡ front ++ 0 ∷ [])
zeros_end n some =
    let same : n ≡ n - 1 + 1 = omega (arith, some) in
    (replicate (n - 1) 0, ap (λ (k : ℕ). replicate k 0) same ∙ sym (replicate_more (n - 1) 0))
