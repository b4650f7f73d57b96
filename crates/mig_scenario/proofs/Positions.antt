-- The first element that passes a test, and what stands after the last one: at a list's first
-- element.
use Rattle.std.proofs.Common.{ℕ, ◌≡◌, ◌<◌, ◌≤◌, ◌+◌, ◌-◌, List, [], ◌∷◌, length, drop, reverse, suc, refl, ap, ◌∙◌, inl, inr, arith, Option, Some, None, Bool}
use Rattle.std.proofs.Common.{true, false, cond, eqb}
use Rattle.std.specs.Prelude.{position, nat_lt, not}
use Rattle.std.proofs.lemmas.Grind.{reverse_onto}
use Rattle.std.specs.List.{position_or_len, after_last}
use Rattle.std.specs.Option.{option_map}
use Rattle.std.proofs.lemmas.Bool.{cond-true, lt-ltb, le-ltb, cases_lt, eq-eqb, ne_eqb}
use Rattle.std.proofs.lemmas.List.{length-reverse, length-drop}
use Rattle.std.proofs.lemmas.List.Folds.{position_or_len_push}

-- a number one further on
pub shifted : (f g : ℕ → ℕ) (o : Option ℕ) → ((j : ℕ) → f (suc j) ≡ g j) → option_map f (option_map suc o) ≡ option_map g o
shifted f g None e = refl
shifted f g (Some j) e = ap Some (e j)

-- two functions with the same values map a number alike, if there is one
pub mapped_same : (f g : ℕ → ℕ) (o : Option ℕ) → ((j : ℕ) → f j ≡ g j) → option_map f o ≡ option_map g o
mapped_same f g None e = refl
mapped_same f g (Some j) e = ap Some (e j)

-- to map a number by g and then by f is to map it by a function with the values of both in turn
pub mapped_twice : (f g h : ℕ → ℕ) (o : Option ℕ) → ((j : ℕ) → f (g j) ≡ h j) → option_map f (option_map g o) ≡ option_map h o
mapped_twice f g h None e = refl
mapped_twice f g h (Some j) e = ap Some (e j)

-- ---- the number of the first element that passes

first_place : (b : Bool) (k n : ℕ) → let m = cond (not b) (1 + k) 0 in
    cond (nat_lt m (suc n)) (Some m) None ≡ cond b (Some 0) (option_map suc (cond (nat_lt k n) (Some k) None))
first_place true k n = cond-true (nat_lt 0 (suc n)) (Some 0) None (lt-ltb 0 (suc n) (omega arith))
first_place false k n = elim (cases_lt k n) [
  | inl lt ↦
      let now : nat_lt k n ≡ true = lt-ltb k n lt in
      let next : nat_lt (1 + k) (suc n) ≡ true = lt-ltb (1 + k) (suc n) (omega arith) in
      rw (now, next) (ap Some (omega arith))
  | inr ge ↦
      let now : nat_lt k n ≡ false = le-ltb k n ge in
      let next : nat_lt (1 + k) (suc n) ≡ false = le-ltb (1 + k) (suc n) (omega arith) in
      rw (now, next) refl
]

-- the first element that passes is the head, or else one further on than in the tail
pub position-cons : {X : Type 0} (p : X → Bool) (x : X) (xs : List X) → position p (x ∷ xs) ≡ cond (p x) (Some 0) (option_map suc (position p xs))
position-cons p x xs = first_place (p x) (position_or_len p xs) (length xs)

-- ---- what stands after the last element that passes

-- how many elements stand there
-- how many elements stand there, one by one
last_run : {X : Type 0} (p : X → Bool) (xs : List X) (x : X)
    → position_or_len p (reverse (x ∷ xs)) ≡ cond (eqb (position_or_len p (reverse xs)) (length xs)) (length xs + cond (p x) 0 1)
    (position_or_len p (reverse xs))
last_run p xs x =
    ap (λ ys. position_or_len p ys) (reverse_onto xs x []) ∙ position_or_len_push p (reverse xs) x
    ∙ ap (λ (n : ℕ). cond (eqb (position_or_len p (reverse xs)) n) (n + cond (p x) 0 1) (position_or_len p (reverse xs))) (length-reverse xs)

-- no element passes, or one does
pub record NonePasses {X : Type 0} (p : X → Bool) (xs : List X) : Type 0 where
  pub run : position_or_len p (reverse xs) ≡ length xs

pub record OnePasses {X : Type 0} (p : X → Bool) (xs : List X) : Type 0 where
  pub run : position_or_len p (reverse xs) < length xs

-- of no elements none passes
pub none_of_none : {X : Type 0} (p : X → Bool) → NonePasses p []
none_of_none p = record { run = refl }

-- if none passes, none passes of one more in front that doesn't
pub none_more : {X : Type 0} (p : X → Bool) (x : X) (xs : List X) → NonePasses p xs → p x ≡ false → NonePasses p (x ∷ xs)
none_more p x xs h e =
    let all : eqb (position_or_len p (reverse xs)) (length xs) ≡ true = eq-eqb _ _ h.run in
    record { run = last_run p xs x ∙ rw (all, e) (omega arith) }

-- if only the element in front passes, one passes
pub one_here : {X : Type 0} (p : X → Bool) (x : X) (xs : List X) → NonePasses p xs → p x ≡ true → OnePasses p (x ∷ xs)
one_here p x xs h e =
    let all : eqb (position_or_len p (reverse xs)) (length xs) ≡ true = eq-eqb _ _ h.run in
    let is : position_or_len p (reverse (x ∷ xs)) ≡ length xs + 0 = last_run p xs x ∙ rw (all, e) refl in
    record { run = omega arith }

run_stays : {X : Type 0} (p : X → Bool) (x : X) (xs : List X) → OnePasses p xs → position_or_len p (reverse (x ∷ xs)) ≡ position_or_len p (reverse xs)
run_stays p x xs h =
    let some : eqb (position_or_len p (reverse xs)) (length xs) ≡ false = ne_eqb _ _ (λ e. omega (arith, h.run)) in
    last_run p xs x ∙ rw some refl

-- if one passes, one passes with an element more in front
pub one_more : {X : Type 0} (p : X → Bool) (x : X) (xs : List X) → OnePasses p xs → OnePasses p (x ∷ xs)
one_more p x xs h = record { run = omega (arith, run_stays p x xs h, h.run) }

-- what stands after the last element that passes
pub after_none : {X : Type 0} (p : X → Bool) (xs : List X) → NonePasses p xs → after_last p xs ≡ xs
after_none p xs h =
    let all : length xs - position_or_len p (reverse xs) ≡ 0 = omega (arith, h.run) in
    ap (λ (n : ℕ). drop n xs) all

-- if only the element in front passes, the rest stands after the last one that passes
pub after_here : {X : Type 0} (p : X → Bool) (x : X) (xs : List X) → NonePasses p xs → p x ≡ true → after_last p (x ∷ xs) ≡ xs
after_here p x xs h e =
    let all : eqb (position_or_len p (reverse xs)) (length xs) ≡ true = eq-eqb _ _ h.run in
    let is : position_or_len p (reverse (x ∷ xs)) ≡ length xs + 0 = last_run p xs x ∙ rw (all, e) refl in
    let one : suc (length xs) - position_or_len p (reverse (x ∷ xs)) ≡ suc 0 = omega arith in
    ap (λ (n : ℕ). drop n (x ∷ xs)) one

-- if a later element passes, one more in front changes nothing after the last one that passes
pub after_more : {X : Type 0} (p : X → Bool) (x : X) (xs : List X) → OnePasses p xs → after_last p (x ∷ xs) ≡ after_last p xs
after_more p x xs h =
    let count : suc (length xs) - position_or_len p (reverse (x ∷ xs)) ≡ suc (length xs - position_or_len p (reverse xs)) =
    omega (arith, run_stays p x xs h, h.run) in
    ap (λ (n : ℕ). drop n (x ∷ xs)) count

-- no more elements stand after the last one that passes than the list has
pub after_short : {X : Type 0} (p : X → Bool) (xs : List X) → length (after_last p xs) ≤ length xs
after_short p xs = rw (length-drop (length xs - position_or_len p (reverse xs)) xs) (omega arith)
