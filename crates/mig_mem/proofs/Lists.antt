-- Lemmas on lists and tests that std lacks, for all crates above.
use Rattle.std.proofs.Common.{ℕ, ◌≡◌, ◌<◌, ◌≤◌, ◌+◌, ◌++◌, List, [], ◌∷◌, length, get_or, map, take, drop, refl, sym, ap, ◌∙◌, inl, inr, arith, zero, suc}
use Rattle.std.proofs.Common.{Option, Some, None, Bool, true, false, cond}
use Rattle.std.specs.Prelude.{position, nat_lt}
use Rattle.std.specs.Bool.{then_some}
use Rattle.std.specs.List.{range_with_len, position_or_len, list_any, AllPairs}
use Rattle.std.specs.Option.{option_or, option_map}
use Rattle.std.proofs.lemmas.Bool.{cond-true, cond-false, lt-ltb, le-ltb, cases_eq, or_parts}
use Rattle.std.proofs.lemmas.List.{append-nil, take_all, drop_all}
use Rattle.std.proofs.lemmas.List.Sums.{position_or_len_is}
use Rattle.mig_mem.specs.First.{first_some}

-- ---- the first of some answers

-- if there is no first answer of two, neither is there
pub or_none : {X : Type 0} (p q : Option X) → option_or p q ≡ None → (p ≡ None) × (q ≡ None)
or_none None q h = (refl, h)
or_none (Some x) q h = cc

-- if nothing is answered, the condition is false
pub then_none : {X : Type 0} (b : Bool) (x : X) → then_some b x ≡ None → b ≡ false
then_none true x h = cc
then_none false x h = refl

-- a function of an answer that is none: there was no answer
pub map_none : {X Y : Type 0} (f : X → Y) (o : Option X) → option_map f o ≡ None → o ≡ None
map_none f None h = refl
map_none f (Some x) h = cc

-- the first answer of a function over a range
pub first_some-at : {X : Type 0} (f : ℕ → Option X) (a n i : ℕ) → a ≤ i → i < a + n → ((k : ℕ) → a ≤ k → k < i → f k ≡ None) → (x : X) → f i ≡ Some x
    → first_some (map f (range_with_len a n)) ≡ Some x
first_some-at f a zero i low high before x h = absurd (omega arith)
first_some-at f a (suc n) i low high before x h =
    elim (cases_eq a i) [
      | inl e ↦ let here : f a ≡ Some x = ap f e ∙ h in rw here refl
      | inr ne ↦ let none : f a ≡ None = before a (omega arith) (omega arith) in
          rw none (first_some-at f (a + 1) n i (omega arith) (omega arith) (λ k lo hi. before k (omega arith) hi) x h)
    ]

-- if a function answers nothing over a range, there is no first answer
pub first_some-none : {X : Type 0} (f : ℕ → Option X) (a n : ℕ) → ((k : ℕ) → a ≤ k → k < a + n → f k ≡ None) → first_some (map f (range_with_len a n)) ≡ None
first_some-none f a zero none = refl
first_some-none f a (suc n) none =
    let here : f a ≡ None = none a (omega arith) (omega arith) in rw here (first_some-none f (a + 1) n (λ k lo hi. none k (omega arith) (omega arith)))

-- if there is no first answer over a range, the function answers nothing in it
pub first_some_nothing : {X : Type 0} (f : ℕ → Option X) (a n i : ℕ) → first_some (map f (range_with_len a n)) ≡ None → a ≤ i → i < a + n → f i ≡ None
first_some_nothing f a zero i h low high = absurd (omega arith)
first_some_nothing f a (suc n) i h low high =
    let both = or_none (f a) (first_some (map f (range_with_len (a + 1) n))) h in
    elim (cases_eq a i) [ inl e ↦ ap f (sym e) ∙ both.0 | inr ne ↦ first_some_nothing f (a + 1) n i both.1 (omega arith) (omega arith) ]

-- ---- the number of the first element that passes

-- the first element that passes has the number at which it stands
pub position_at : {X : Type 0} (p : X → Bool) (xs : List X) (i : ℕ) (d : X) → i < length xs
    → ((k : ℕ) → k < i → p (get_or xs k d) ≡ false) → p (get_or xs i d) ≡ true
    → position p xs ≡ Some i
position_at p xs i d h before here =
    let is : position_or_len p xs ≡ i = position_or_len_is p xs i d (omega arith) before (λ _. here) in
    ap (λ (n : ℕ). cond (nat_lt n (length xs)) (Some n) None) is ∙ cond-true (nat_lt i (length xs)) (Some i) None (lt-ltb i (length xs) h)

-- if no element passes, there is no number of a first one
pub position_past : {X : Type 0} (p : X → Bool) (xs : List X) (i : ℕ) (d : X) → length xs ≤ i
    → ((k : ℕ) → k < i → p (get_or xs k d) ≡ false) → position p xs ≡ None
position_past p xs i d h before =
    let is : position_or_len p xs ≡ length xs =
    position_or_len_is p xs (length xs) d (omega arith) (λ k lt. before k (omega arith)) (λ lt. absurd (omega arith)) in
    ap (λ (n : ℕ). cond (nat_lt n (length xs)) (Some n) None) is
    ∙ cond-false (nat_lt (length xs) (length xs)) (Some (length xs)) None (le-ltb (length xs) (length xs) (omega arith))

-- no element passes a test that none passes
pub any_false : {X : Type 0} (p : X → Bool) (xs : List X) (k : ℕ) (d : X) → list_any p xs ≡ false → k < length xs → p (get_or xs k d) ≡ false
any_false p [] k d h lt = absurd (omega arith)
any_false p (x ∷ xs) zero d h lt = (or_parts (p x) (list_any p xs) h).0
any_false p (x ∷ xs) (suc k) d h lt = any_false p xs k d (or_parts (p x) (list_any p xs) h).1 (omega arith)

-- ---- pairs of elements

-- what holds of each pair of a list holds of each pair of its tail
pub pairs_tail : {X : Type 0} (R : X → X → Type 0) (x : X) (xs : List X) → AllPairs R (x ∷ xs) → AllPairs R xs
pairs_tail R x xs all = λ i j d lt h. all (suc i) (suc j) d (omega arith) (omega arith)

-- ---- a function of each element

-- after a loop that puts f of each element in its place, all are put
pub mapped_all : {X : Type 0} (f : X → X) (xs ys : List X) (i : ℕ) → length xs ≤ i → ys ≡ map f (take i xs) ++ drop i xs → ys ≡ map f xs
mapped_all {X} f xs ys i end is = is
    ∙ ap (λ (l : List X). map f l ++ drop i xs) (take_all i xs end)
    ∙ ap (λ (l : List X). map f xs ++ l) (drop_all i xs end)
    ∙ append-nil (map f xs)
