-- Counts of lists: of a run of numbers, of a list that is changed at one place, and of all seats
-- together.
use Rattle.std.proofs.Common.{◌≡◌, ℕ, zero, suc, ◌+◌, ◌-◌, ◌<◌, ◌≤◌, Bool, true, cond, leb, eqb, List, [], ◌∷◌, ◌++◌, length, get_or, set, sym, refl, ap, ◌∙◌}
use Rattle.std.proofs.Common.{arith, add-zero}
use Rattle.std.specs.Prelude.{count_by, sum_by, flat_map, All}
use Rattle.std.specs.List.{range_with_len}
use Rattle.std.proofs.lemmas.List.Sums.{sum_by-cons, sum_by-append, sum_by_push}
use Rattle.std.proofs.lemmas.Bool.Decides.{nat_tests}
use mathlib.Core.Option.{some, some-injective, some-ne-none}
use lib.ListN.{get_elem?}
use Rattle.mig_deal.specs.Rule.{HasSameNumbers, numbers_between}
use Rattle.mig_deal.specs.Deal.{HasEachOnce, times}

module _ {A : Type 0} (f : A → ℕ) where
  pub sum_by_set : (l : List A) (i : ℕ) (v w : A) → get_elem? l i ≡ some v → sum_by f (set l i w) + f v ≡ sum_by f l + f w
  sum_by_set [] i v w e = absurd (some-ne-none v (sym e))
  sum_by_set (x ∷ xs) zero v w e = let is : f x ≡ f v = ap f (some-injective x v e) in omega (arith, sum_by-cons f w xs, sum_by-cons f x xs)
  sum_by_set (x ∷ xs) (suc i) v w e = let r = sum_by_set xs i v w e in omega (arith, sum_by-cons f x (set xs i w), sum_by-cons f x xs)

  pub le_sum_by : (l : List A) (i : ℕ) (v : A) → get_elem? l i ≡ some v → f v ≤ sum_by f l
  le_sum_by [] i v e = absurd (some-ne-none v (sym e))
  le_sum_by (x ∷ xs) zero v e = let is : f x ≡ f v = ap f (some-injective x v e) in omega (arith, sum_by-cons f x xs)
  le_sum_by (x ∷ xs) (suc i) v e = let r = le_sum_by xs i v e in omega (arith, sum_by-cons f x xs)

module _ {A : Type 0} (f g : A → ℕ) where
  pub sum_by_le : (l : List A) → ((i : ℕ) (v : A) → get_elem? l i ≡ some v → f v ≤ g v) → sum_by f l ≤ sum_by g l
  sum_by_le [] h = omega arith
  sum_by_le (x ∷ xs) h = let r = sum_by_le xs (λ i v e. h (suc i) v e) in let a = h 0 x refl in omega (arith, sum_by-cons f x xs, sum_by-cons g x xs)

  pub sum_by_none : (l : List A) → ((i : ℕ) (v : A) → get_elem? l i ≡ some v → g v ≡ 0 → f v ≡ 0) → sum_by g l ≡ 0 → sum_by f l ≡ 0
  sum_by_none [] h e = refl
  sum_by_none (x ∷ xs) h e = let s = sum_by-cons g x xs in let here : f x ≡ 0 = h 0 x refl (omega arith) in
      let r = sum_by_none xs (λ i v at. h (suc i) v at) (omega arith) in omega (arith, sum_by-cons f x xs)

  -- if one member has all of g, and f is 0 wherever g is, that member has all of f
  pub sum_by_alone : (l : List A) (i : ℕ) (v : A) → ((j : ℕ) (w : A) → get_elem? l j ≡ some w → g w ≡ 0 → f w ≡ 0) → get_elem? l i ≡ some v → sum_by g l ≡ g v
      → sum_by f l ≡ f v
  sum_by_alone [] i v h at e = absurd (some-ne-none v (sym at))
  sum_by_alone (x ∷ xs) zero v h at e = let is : f x ≡ f v = ap f (some-injective x v at) in
      let is' : g x ≡ g v = ap g (some-injective x v at) in let s = sum_by-cons g x xs in
      let r = sum_by_none xs (λ j w a. h (suc j) w a) (omega arith) in omega (arith, sum_by-cons f x xs)
  sum_by_alone (x ∷ xs) (suc i) v h at e = let s = sum_by-cons g x xs in let least = le_sum_by g xs i v at in let here : f x ≡ 0 = h 0 x refl (omega arith) in
      let r = sum_by_alone xs i v (λ j w a. h (suc j) w a) at (omega arith) in omega (arith, sum_by-cons f x xs)

-- a count over all lists is the sum of the counts
pub count_by-flat_map : {A B : Type 0} (p : B → Bool) (f : A → List B) (l : List A) → count_by p (flat_map f l) ≡ sum_by (λ x. count_by p (f x)) l
count_by-flat_map p f [] = refl
count_by-flat_map {A} p f (x ∷ xs) = let r = count_by-flat_map p f xs in
    sum_by-append (λ y. cond (p y) 1 0) (f x) (flat_map f xs) ∙ (ap (λ n. count_by p (f x) + n) r ∙ sym (sum_by-cons (λ (y : A). count_by p (f y)) x xs))

-- as many of a joined list pass a test as of its two parts together
pub count_by-append : {B : Type 0} (p : B → Bool) (xs ys : List B) → count_by p (xs ++ ys) ≡ count_by p xs + count_by p ys
count_by-append p xs ys = sum_by-append (λ y. cond (p y) 1 0) xs ys

-- an element at the end adds one to the count if it passes the test, and else nothing
pub count_by_push : {B : Type 0} (p : B → Bool) (xs : List B) (y : B) → count_by p (xs ++ y ∷ []) ≡ count_by p xs + cond (p y) 1 0
count_by_push p xs y = sum_by_push (λ z. cond (p z) 1 0) xs y

-- an element at the front adds one to the count if it passes the test, and else nothing
pub count_by-cons : {B : Type 0} (p : B → Bool) (y : B) (xs : List B) → count_by p (y ∷ xs) ≡ cond (p y) 1 0 + count_by p xs
count_by-cons p y xs = sum_by-cons (λ z. cond (p z) 1 0) y xs

-- a run that grows by one number
pub range_push : (a n : ℕ) → range_with_len a (suc n) ≡ range_with_len a n ++ (a + n) ∷ []
range_push a zero = ap (λ k. k ∷ []) (sym (add-zero a))
range_push a (suc n) = ap (λ xs. a ∷ xs) (range_push (a + 1) n ∙ ap (λ k. range_with_len (a + 1) n ++ k ∷ []) (omega arith))

-- with `to` added to the numbers from `from` up to it, one more passes a test exactly if `to` does
pub numbers_push : (p : ℕ → Bool) (from to : ℕ) → from ≤ to
    → count_by p (numbers_between from (to + 1)) ≡ count_by p (numbers_between from to) + cond (p to) 1 0
numbers_push p from to h = let n : ℕ = to - from in let e : (to + 1) - from ≡ suc n = omega arith in let at : from + n ≡ to = omega arith in
    ap (λ k. count_by p (range_with_len from k)) e
    ∙ (ap (count_by p) (range_push from n) ∙ (count_by_push p (range_with_len from n) (from + n)
    ∙ ap (λ k. count_by p (range_with_len from n) + cond (p k) 1 0) at))

-- how many numbers of a run are at least m
pub range_from : (m a n : ℕ) → count_by (λ x. leb m x) (range_with_len a n) ≡ (a + n) - m - (a - m)
range_from m a zero = omega arith
range_from m a (suc n) = let r = range_from m (a + 1) n in let s = count_by-cons (λ x. leb m x) a (range_with_len (a + 1) n) in grind (arith, nat_tests)

-- a run of n numbers from a on has each number from a up to a + n once, and no other
pub range_times : (x a n : ℕ) → times x (range_with_len a n) ≡ cond (leb a x) (cond (leb (a + n) x) 0 1) 0
range_times x a zero = grind (arith, nat_tests)
range_times x a (suc n) = let r = range_times x (a + 1) n in let s = count_by-cons (λ y. eqb y x) a (range_with_len (a + 1) n) in grind (arith, nat_tests)

-- a run of n numbers has n members
pub range_length : (a n : ℕ) → count_by (λ _. true) (range_with_len a n) ≡ n
range_length a zero = refl
range_length a (suc n) = let r = range_length (a + 1) n in omega (arith, count_by-cons (λ _. true) a (range_with_len (a + 1) n))

-- as many members pass the test that all pass as the list is long
pub count_each : (xs : List ℕ) → count_by (λ _. true) xs ≡ length xs
count_each [] = refl
count_each (x ∷ xs) = omega (arith, count_each xs, count_by-cons (λ _. true) x xs)

-- if none passes, each fails
pub none_pass : (m : ℕ) (xs : List ℕ) → count_by (λ x. leb m x) xs ≡ 0 → All (λ y. y < m) xs
none_pass m [] e k d h = absurd (omega arith)
none_pass m (x ∷ xs) e zero d h = let s = count_by-cons (λ y. leb m y) x xs in grind (arith, nat_tests)
none_pass m (x ∷ xs) e (suc k) d h = let s = count_by-cons (λ y. leb m y) x xs in none_pass m xs (omega arith) k d (omega arith)

-- a list with the numbers of a run has each of them once
pub each_once : (from to : ℕ) (xs : List ℕ) → from ≤ to → HasSameNumbers xs (numbers_between from to) → HasEachOnce from to xs
each_once from to xs h same = let n : ℕ = to - from in let end : from + n ≡ to = omega arith in
    let t = λ (x : ℕ). same (λ y. eqb y x) ∙ range_times x from n in record {
      once = λ x a b. let e = t x in grind (arith, nat_tests);
      none_below = λ x a. let e = t x in grind (arith, nat_tests);
      none_above = λ x a. let e = t x in grind (arith, nat_tests);
    }

module _ {A : Type 0} (P : A → Type 0) where
  pub all_last : (xs : List A) (x : A) → All P (xs ++ x ∷ []) → P x
  all_last [] x h = h 0 x (omega arith)
  all_last (y ∷ xs) x h = all_last xs x (λ k d l. h (suc k) d (omega arith))

  pub all_front : (xs : List A) (x : A) → All P (xs ++ x ∷ []) → All P xs
  all_front [] x h k d l = absurd (omega arith)
  all_front (y ∷ xs) x h zero d l = h 0 d (omega arith)
  all_front (y ∷ xs) x h (suc k) d l = all_front xs x (λ j e m. h (suc j) e (omega arith)) k d (omega arith)

-- what is found at a place of a list is there whatever the default is
pub found_at : {A : Type 0} (l : List A) (i : ℕ) (a d : A) → get_elem? l i ≡ some a → get_or l i d ≡ a
found_at [] i a d e = absurd (some-ne-none a (sym e))
found_at (x ∷ xs) zero a d e = some-injective x a e
found_at (x ∷ xs) (suc i) a d e = found_at xs i a d e

-- if the sum over a list is 1, one member alone has it
module _ {A : Type 0} (f : A → ℕ) where
  pub record OneAlone (l : List A) : Type 0 where
    pub place : ℕ
    pub member : A
    pub at : get_elem? l place ≡ some member
    pub has : f member ≡ 1
    pub others : (other : ℕ) (w : A) → get_elem? l other ≡ some w → 0 < f w → other ≡ place

  none_of_nothing : (l : List A) → sum_by f l ≡ 0 → (i : ℕ) (v : A) → get_elem? l i ≡ some v → 0 < f v → ⊥
  none_of_nothing l e i v at has = let le = le_sum_by f l i v at in omega arith

  -- who follows a member that has all
  after_all : (x : A) (xs : List A) → sum_by f xs ≡ 0 → (other : ℕ) (v : A) → get_elem? (x ∷ xs) other ≡ some v → 0 < f v → other ≡ 0
  after_all x xs e zero v at has = refl
  after_all x xs e (suc i) v at has = absurd (none_of_nothing xs e i v at has)

  -- who comes after one that has nothing
  after_none : (x : A) (xs : List A) (place : ℕ) → f x ≡ 0 → ((other : ℕ) (v : A) → get_elem? xs other ≡ some v → 0 < f v → other ≡ place) → (other : ℕ) (v : A)
      → get_elem? (x ∷ xs) other ≡ some v → 0 < f v → other ≡ suc place
  after_none x xs place e rest zero v at has = let is : f x ≡ f v = ap f (some-injective x v at) in absurd (omega arith)
  after_none x xs place e rest (suc i) v at has = ap suc (rest i v at has)

  alone_by_first : (x : A) (xs : List A) (here : ℕ) → f x ≡ here → sum_by f (x ∷ xs) ≡ 1 → (sum_by f xs ≡ 1 → OneAlone xs) → OneAlone (x ∷ xs)
  alone_by_first x xs zero is e rest = let s = sum_by-cons f x xs in let r = rest (omega arith) in record {
    place = suc r.place;
    member = r.member;
    at = r.at;
    has = r.has;
    others = after_none x xs r.place is r.others;
  }
  alone_by_first x xs (suc k) is e rest = let s = sum_by-cons f x xs in record {
    place = 0;
    member = x;
    at = refl;
    has = omega arith;
    others = after_all x xs (omega arith);
  }

  pub one_alone : (l : List A) → sum_by f l ≡ 1 → OneAlone l
  one_alone [] e = absurd (omega arith)
  one_alone (x ∷ xs) e = alone_by_first x xs (f x) refl e (λ one. one_alone xs one)
