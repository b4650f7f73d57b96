-- Lemmas on lists: pairs of elements, and counts.
use Rattle.std.proofs.Common.{ℕ, zero, suc, ◌≡◌, ◌+◌, ◌<◌, ◌≤◌, Bool, cond, ◌==◌, List, [], ◌∷◌, ◌++◌, map}
use Rattle.std.proofs.Common.{refl, ap, ◌∙◌, inl, inr, arith}
use Rattle.std.specs.Prelude.{count_by, sum_by}
use Rattle.std.specs.List.{filter, range_with_len, All, AllPairs}
use Rattle.std.proofs.lemmas.Bool.{cases_Bool, cases_eq}
use Rattle.std.proofs.lemmas.Bool.Decides.{nat_tests}
use Rattle.std.proofs.lemmas.List.Elements.{All-nil, All-cons, All-head, All-tail, All-map}
use Rattle.std.proofs.lemmas.List.Kept.{AllPairs-cons}
use Rattle.std.proofs.lemmas.List.Sums.{sum_by-cons}
use Rattle.mig_mem.proofs.Lists.{pairs_tail}
use Rattle.mig_mem.proofs.Members.{All-range}
use Rattle.mig_deal.proofs.Counts.{count_by-cons}

-- ---- all elements

pub all_first : {X : Type 0} (P : X → Type 0) (xs ys : List X) → All P (xs ++ ys) → All P xs
all_first P [] ys h = All-nil P
all_first P (x ∷ xs) ys h = All-cons P x xs (All-head P x (xs ++ ys) h) (all_first P xs ys (All-tail P x (xs ++ ys) h))

pub all_second : {X : Type 0} (P : X → Type 0) (xs ys : List X) → All P (xs ++ ys) → All P ys
all_second P [] ys h = h
all_second P (x ∷ xs) ys h = all_second P xs ys (All-tail P x (xs ++ ys) h)

all_unmap : {X Y : Type 0} (P : Y → Type 0) (f : X → Y) (xs : List X) → All P (map f xs) → All (λ x. P (f x)) xs
all_unmap P f [] h = All-nil (λ x. P (f x))
all_unmap P f (x ∷ xs) h = All-cons (λ y. P (f y)) x xs (All-head P (f x) (map f xs) h) (all_unmap P f xs (All-tail P (f x) (map f xs) h))

-- ---- pairs of an element and a later one

no_pairs : {X : Type 0} (R : X → X → Type 0) → AllPairs R []
no_pairs R i j d before low = absurd (omega arith)

pub pairs_head : {X : Type 0} (R : X → X → Type 0) (x : X) (xs : List X) → AllPairs R (x ∷ xs) → All (R x) xs
pairs_head R x xs h = λ k d low. h 0 (suc k) d (omega arith) (omega arith)

pub pairs_second : {X : Type 0} (R : X → X → Type 0) (xs ys : List X) → AllPairs R (xs ++ ys) → AllPairs R ys
pairs_second R [] ys h = h
pairs_second R (x ∷ xs) ys h = pairs_second R xs ys (pairs_tail R x (xs ++ ys) h)

pub pairs_map : {X Y : Type 0} (R : Y → Y → Type 0) (f : X → Y) (xs : List X) → AllPairs (λ x y. R (f x) (f y)) xs → AllPairs R (map f xs)
pairs_map R f [] h = no_pairs R
pairs_map R f (x ∷ xs) h =
    AllPairs-cons R (f x) (map f xs) (All-map (R (f x)) f xs (pairs_head (λ y z. R (f y) (f z)) x xs h))
    (pairs_map R f xs (pairs_tail (λ y z. R (f y) (f z)) x xs h))

pub pairs_unmap : {X Y : Type 0} (R : Y → Y → Type 0) (f : X → Y) (xs : List X) → AllPairs R (map f xs) → AllPairs (λ x y. R (f x) (f y)) xs
pairs_unmap R f [] h = no_pairs (λ y z. R (f y) (f z))
pairs_unmap R f (x ∷ xs) h =
    AllPairs-cons (λ y z. R (f y) (f z)) x xs (all_unmap (R (f x)) f xs (pairs_head R (f x) (map f xs) h))
    (pairs_unmap R f xs (pairs_tail R (f x) (map f xs) h))

-- numbers of a run rise
pub run_rises : (a n : ℕ) → AllPairs (λ (x y : ℕ). x < y) (range_with_len a n)
run_rises a zero = no_pairs (λ x y. x < y)
run_rises a (suc n) =
    AllPairs-cons (λ x y. x < y) a (range_with_len (a + 1) n) (All-range (λ y. a < y) (a + 1) n (λ k low high. omega (arith, low))) (run_rises (a + 1) n)

-- a run that is shifted
pub run_shifted : (b a n : ℕ) → map (λ (x : ℕ). b + x) (range_with_len a n) ≡ range_with_len (b + a) n
run_shifted b a zero = refl
run_shifted b a (suc n) =
    let e : b + (a + 1) ≡ (b + a) + 1 = omega arith in
    ap (λ (l : List ℕ). (b + a) ∷ l) (run_shifted b (a + 1) n ∙ ap (λ (k : ℕ). range_with_len k n) e)

-- ---- elements that are sorted by a number

-- a number is in a run once
miss : (x k a n : ℕ) → x < a → sum_by (λ (c : ℕ). cond (x == c) k 0) (range_with_len a n) ≡ 0
miss x k a zero low = refl
miss x k a (suc n) low =
    let rest = miss x k (a + 1) n (omega (arith, low)) in
    let more = sum_by-cons (λ (c : ℕ). cond (x == c) k 0) a (range_with_len (a + 1) n) in
    grind (arith, nat_tests)

hit : (x k a n : ℕ) → a ≤ x → x < a + n → sum_by (λ (c : ℕ). cond (x == c) k 0) (range_with_len a n) ≡ k
hit x k a zero low high = absurd (omega (arith, low, high))
hit x k a (suc n) low high =
    let more = sum_by-cons (λ (c : ℕ). cond (x == c) k 0) a (range_with_len (a + 1) n) in
    elim (cases_eq a x) [
      | inl e ↦ let rest = miss x k (a + 1) n (omega (arith, e)) in grind (arith, nat_tests)
      | inr ne ↦ let rest = hit x k (a + 1) n (omega (arith, low, ne)) (omega (arith, high)) in grind (arith, nat_tests)
    ]

module _ {X : Type 0} (at number : X → ℕ) (test : ℕ → Bool) where
  -- the numbers of those that are at one place
  abbrev there : List X → ℕ → List ℕ
  there xs c = map number (filter (λ (x : X). at x == c) xs)

  abbrev passed : List X → ℕ → ℕ
  passed xs c = count_by test (there xs c)

  one_there : (x : X) (xs : List X) (c : ℕ) → passed (x ∷ xs) c ≡ cond (at x == c) (cond (test (number x)) 1 0) 0 + passed xs c
  one_there x xs c =
      elim (cases_Bool (at x == c)) [
        | inl t ↦ rw t (count_by-cons test (number x) (there xs c))
        | inr f ↦ rw f (omega arith)
      ]

  one_more : (x : X) (xs : List X) (cs : List ℕ)
      → sum_by (passed (x ∷ xs)) cs ≡ sum_by (λ (c : ℕ). cond (at x == c) (cond (test (number x)) 1 0) 0) cs + sum_by (passed xs) cs
  one_more x xs [] = refl
  one_more x xs (c ∷ cs) =
      omega (
        arith,
        sum_by-cons (passed (x ∷ xs)) c cs,
        sum_by-cons (λ (c : ℕ). cond (at x == c) (cond (test (number x)) 1 0) 0) c cs,
        sum_by-cons (passed xs) c cs,
        one_there x xs c,
        one_more x xs cs,
      )

  none_pass : (n a : ℕ) → sum_by (passed []) (range_with_len a n) ≡ 0
  none_pass zero a = refl
  none_pass (suc n) a = omega (arith, none_pass n (a + 1), sum_by-cons (passed []) a (range_with_len (a + 1) n))

  -- as many pass of all places together as of all elements
  pub sorted_pass : (n : ℕ) (xs : List X) → All (λ x. at x < n) xs → sum_by (passed xs) (range_with_len 0 n) ≡ count_by test (map number xs)
  sorted_pass n [] all = none_pass n 0
  sorted_pass n (x ∷ xs) all =
      let k : ℕ = cond (test (number x)) 1 0 in
      omega (
        arith,
        one_more x xs (range_with_len 0 n),
        hit (at x) k 0 n (omega arith) (omega (arith, All-head (λ y. at y < n) x xs all)),
        sorted_pass n xs (All-tail (λ y. at y < n) x xs all),
        count_by-cons test (number x) (map number xs),
      )
