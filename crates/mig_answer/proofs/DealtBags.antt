-- Lists that are made of the same elements in another order, and numbers that each stand in a list
-- once.
use Rattle.std.proofs.Common.{ℕ, ◌≡◌, ◌+◌, ◌-◌, ◌<◌, List, [], ◌∷◌, ◌++◌, length, map, get_or, refl, sym, ap, ◌∙◌, inl, inr, arith, zero, suc, Bool, true}
use Rattle.std.proofs.Common.{false, not, cond, subst, append_assoc}
use Rattle.std.specs.Prelude.{◌==◌, Contains, flat_map, sum_by, IsPermutation}
use Rattle.std.specs.List.{filter, range_with_len}
use Rattle.std.proofs.lemmas.Bool.{cases_Bool, cases_eq, cases_lt, cond-true, cond-false, eq-eqb, eqb-true, ne_eqb}
use Rattle.std.proofs.lemmas.List.{map-append}
use Rattle.std.proofs.lemmas.List.Elements.{Contains-append_left, Contains-append_right, Contains-append_cases}
use Rattle.std.proofs.lemmas.List.Sums.{sum_by-cons, sum_by-append}
use Rattle.std.proofs.lemmas.List.Filters.{sum_by-filter_both}
use Rattle.std.proofs.lemmas.List.Sorted.{IsPermutation-refl, IsPermutation-trans, IsPermutation-cons, IsPermutation-append_left, IsPermutation-append_comm}
use Rattle.mig_mem.proofs.Members.{map_agree, All-range}
use Rattle.mig_deal.specs.Deal.{HasEachOnce, times}
use Rattle.mig_deal.proofs.Counts.{count_by-append, count_by-cons}
use Rattle.mig_assemble.proofs.Bags.{SameBag}
use Rattle.mig_assemble.proofs.Elements.{contains_cases, contains_here, contains_later, contains_none, contains_map, map_contains, contains_flat_map}
use Rattle.mig_assemble.proofs.Elements.{flat_map_contains, contains_filter, filter_contains}

-- ---- the same elements

-- equal lists have the same elements, each as often
pub bag_same : {X : Type 0} (xs ys : List X) → xs ≡ ys → SameBag xs ys
bag_same {X} xs ys e = record {
  there = λ x h. subst (λ (l : List X). Contains l x) e h;
  back = λ x h. subst (λ (l : List X). Contains l x) (sym e) h;
  sums = λ f. ap (λ (l : List X). sum_by f l) e;
}

-- two lists one after another
pub bag_append : {X : Type 0} (xs ys us vs : List X) → SameBag xs ys → SameBag us vs → SameBag (xs ++ us) (ys ++ vs)
bag_append xs ys us vs first second = record {
  there = λ x h. elim (Contains-append_cases xs us x h) [
    | inl a ↦ Contains-append_left ys vs x (first.there x a)
    | inr b ↦ Contains-append_right ys vs x (second.there x b)
  ];
  back = λ x h. elim (Contains-append_cases ys vs x h) [
    | inl a ↦ Contains-append_left xs us x (first.back x a)
    | inr b ↦ Contains-append_right xs us x (second.back x b)
  ];
  sums = λ f. sum_by-append f xs us ∙ ap (λ (n : ℕ). n + sum_by f us) (first.sums f)
      ∙ ap (λ (n : ℕ). sum_by f ys + n) (second.sums f) ∙ sym (sum_by-append f ys vs);
}

-- lists that are made of each element, by one way or by another
pub bag_each : {X Y : Type 0} (f g : X → List Y) (xs : List X) → ((x : X) → Contains xs x → SameBag (f x) (g x)) → SameBag (flat_map f xs) (flat_map g xs)
bag_each f g [] same = bag_same [] [] refl
bag_each f g (x ∷ xs) same =
    bag_append (f x) (g x) (flat_map f xs) (flat_map g xs) (same x (contains_here x xs)) (bag_each f g xs (λ y h. same y (contains_later x xs y h)))

-- what doesn't pass a test, and what passes it
pub bag_both : {X : Type 0} (p : X → Bool) (xs : List X) → SameBag (filter (λ x. not (p x)) xs ++ filter p xs) xs
bag_both {X} p xs = record {
  there = λ x h. elim (Contains-append_cases others passing x h) [
    | inl a ↦ (filter_contains (λ x. not (p x)) xs x a).0
    | inr b ↦ (filter_contains p xs x b).0
  ];
  back = λ x h. elim (cases_Bool (p x)) [
    | inl t ↦ Contains-append_right others passing x (contains_filter p xs x h t)
    | inr f ↦ Contains-append_left others passing x (contains_filter (λ x. not (p x)) xs x h (ap not f))
  ];
  sums = λ f. sum_by-append f others passing ∙ sum_by-filter_both (λ x. not (p x)) p (λ x. twice_not (p x)) f xs;
}
  where
    others : List X
    others = filter (λ x. not (p x)) xs

    passing : List X
    passing = filter p xs

    twice_not : (b : Bool) → b ≡ not (not b)
    twice_not true = refl
    twice_not false = refl

-- what each element gives, of which the last is one: first all but those, and then those
pub bag_lasts : {X Y : Type 0} (f : X → List Y) (g : X → Y) (xs : List X) → SameBag (flat_map (λ x. f x ++ g x ∷ []) xs) (flat_map f xs ++ map g xs)
bag_lasts {X} {Y} f g xs = record {
  there = λ y h. (let k = flat_map_contains each xs y h in elim (Contains-append_cases (f k.0) (g k.0 ∷ []) y k.2) [
    | inl a ↦ Contains-append_left (flat_map f xs) (map g xs) y (contains_flat_map f xs k.0 y k.1 a)
    | inr b ↦ elim (contains_cases (g k.0) [] y b) [
      | inl e ↦ Contains-append_right (flat_map f xs) (map g xs) y (subst (λ (z : Y). Contains (map g xs) z) e (contains_map g xs k.0 k.1))
      | inr none ↦ contains_none y none
    ]
  ]);
  back = λ y h. elim (Contains-append_cases (flat_map f xs) (map g xs) y h) [
    | inl a ↦ (let k = flat_map_contains f xs y a in contains_flat_map each xs k.0 y k.1 (Contains-append_left (f k.0) (g k.0 ∷ []) y k.2))
    | inr b ↦ (let k = map_contains g xs y b in
        contains_flat_map each xs k.0 y k.1 (Contains-append_right (f k.0) (g k.0 ∷ []) y
        (subst (λ (z : Y). Contains (g k.0 ∷ []) z) k.2 (contains_here (g k.0) []))))
  ];
  sums = λ h. both h xs;
}
  where
    each : X → List Y
    each x = f x ++ g x ∷ []

    both : (h : Y → ℕ) (xs : List X) → sum_by h (flat_map each xs) ≡ sum_by h (flat_map f xs ++ map g xs)
    both h [] = refl
    both h (x ∷ xs) =
        let ih : sum_by h (flat_map each xs) ≡ sum_by h (flat_map f xs ++ map g xs) = both h xs in
        let all = sum_by-append h (each x) (flat_map each xs) in
        let here = sum_by-append h (f x) (g x ∷ []) in
        let one : sum_by h (g x ∷ []) ≡ h (g x) + 0 = sum_by-cons h (g x) [] in
        let rest = sum_by-append h (flat_map f xs) (map g xs) in
        let parts = sum_by-append h (flat_map f (x ∷ xs)) (map g (x ∷ xs)) in
        let first = sum_by-append h (f x) (flat_map f xs) in
        let second : sum_by h (map g (x ∷ xs)) ≡ h (g x) + sum_by h (map g xs) = sum_by-cons h (g x) (map g xs) in
        omega (arith, ih, all, here, one, rest, parts, first, second)

-- ---- maps

-- to map all that is listed is to map what is listed of each element
pub map-flat_map : {X Y Z : Type 0} (g : Y → Z) (f : X → List Y) (xs : List X) → map g (flat_map f xs) ≡ flat_map (λ x. map g (f x)) xs
map-flat_map g f [] = refl
map-flat_map {X} {Y} {Z} g f (x ∷ xs) = map-append g (f x) (flat_map f xs) ∙ ap (λ (l : List Z). map g (f x) ++ l) (map-flat_map g f xs)

-- a list by the numbers of its elements, counted from a base on
pub by_number : {X : Type 0} (base : ℕ) (d : X) (xs : List X) → map (λ n. get_or xs (n - base) d) (range_with_len base (length xs)) ≡ xs
by_number base d [] = refl
by_number {X} base d (x ∷ xs) =
    let none : base - base ≡ 0 = omega arith in
    ap (λ (k : ℕ). get_or (x ∷ xs) k d ∷ map (λ n. get_or (x ∷ xs) (n - base) d) (range_with_len (base + 1) (length xs))) none
    ∙ ap (λ (l : List X). x ∷ l)
    (map_agree (λ n. get_or (x ∷ xs) (n - base) d) (λ n. get_or xs (n - (base + 1)) d) (range_with_len (base + 1) (length xs))
    (All-range (λ n. get_or (x ∷ xs) (n - base) d ≡ get_or xs (n - (base + 1)) d) (base + 1) (length xs)
    (λ n low high. (let e : n - base ≡ suc (n - (base + 1)) = omega (arith, low) in ap (λ (k : ℕ). get_or (x ∷ xs) k d) e)))
    ∙ by_number (base + 1) d xs)

-- ---- numbers of a run

-- where a number stands in a list
record Found (n : ℕ) (numbers : List ℕ) : Type 0 where
  before : List ℕ
  behind : List ℕ
  is : numbers ≡ before ++ n ∷ behind

found : (n : ℕ) (numbers : List ℕ) → 0 < times n numbers → Found n numbers
found n [] some = absurd (omega (arith, some))
found n (m ∷ numbers) some = elim (cases_Bool (m == n)) [
  | inl t ↦ record { before = []; behind = numbers; is = ap (λ (k : ℕ). k ∷ numbers) (eqb-true m n t) }
  | inr f ↦
      let none : ◌≡◌ {A = ℕ} (cond (m == n) 1 0) 0 = cond-false {A = ℕ} (m == n) 1 0 f in
      let parts = count_by-cons (λ other. other == n) m numbers in
      let rest = found n numbers (omega (arith, some, none, parts)) in
      record { before = m ∷ rest.before; behind = rest.behind; is = ap (λ (l : List ℕ). m ∷ l) rest.is }
]

-- without it a number stands there as often as before, but that one
times_without : (k n : ℕ) (before behind : List ℕ) → times k (before ++ n ∷ behind) ≡ cond (n == k) 1 0 + times k (before ++ behind)
times_without k n before behind =
    let all = count_by-append (λ other. other == k) before (n ∷ behind) in
    let one = count_by-cons (λ other. other == k) n behind in
    let rest = count_by-append (λ other. other == k) before behind in
    omega (arith, all, one, rest)

moved : (n : ℕ) (before behind : List ℕ) → IsPermutation (n ∷ (before ++ behind)) (before ++ n ∷ behind)
moved n before behind =
    subst (λ (l : List ℕ). IsPermutation (n ∷ (before ++ behind)) l) (append_assoc before (n ∷ []) behind)
    (IsPermutation-append_left behind (n ∷ before) (before ++ n ∷ []) (IsPermutation-append_comm (n ∷ []) before))

rest_once : (from to : ℕ) (before behind : List ℕ) → from < to → HasEachOnce from to (before ++ from ∷ behind) → HasEachOnce (from + 1) to (before ++ behind)
rest_once from to before behind lt is = record {
  once = λ k low high. omega (arith, parts k, other k (λ e. omega (arith, e, low)), is.once k (omega (arith, low)) high);
  none_below = λ k low. elim (cases_eq from k) [
    | inl e ↦ omega (arith, parts k, here k e, is.once k (omega (arith, e)) (omega (arith, e, lt)))
    | inr ne ↦ omega (arith, parts k, other k ne, is.none_below k (omega (arith, low, ne)))
  ];
  none_above = λ k high. omega (arith, parts k, other k (λ e. omega (arith, e, high, lt)), is.none_above k high);
}
  where
    parts : (k : ℕ) → times k (before ++ from ∷ behind) ≡ cond (from == k) 1 0 + times k (before ++ behind)
    parts k = times_without k from before behind

    here : (k : ℕ) → from ≡ k → ◌≡◌ {A = ℕ} (cond (from == k) 1 0) 1
    here k e = cond-true {A = ℕ} (from == k) 1 0 (eq-eqb from k e)

    other : (k : ℕ) → (from ≡ k → ⊥) → ◌≡◌ {A = ℕ} (cond (from == k) 1 0) 0
    other k ne = cond-false {A = ℕ} (from == k) 1 0 (ne_eqb from k ne)

-- numbers among which each of a run stands once, and no others, are that run in some order
pub each_once_run : (from n : ℕ) (numbers : List ℕ) → HasEachOnce from (from + n) numbers → IsPermutation (range_with_len from n) numbers
each_once_run from zero [] once = IsPermutation-refl []
each_once_run from zero (m ∷ numbers) once =
    let one : ◌≡◌ {A = ℕ} (cond (m == m) 1 0) 1 = cond-true {A = ℕ} (m == m) 1 0 (eq-eqb m m refl) in
    let parts = count_by-cons (λ other. other == m) m numbers in
    absurd (elim (cases_lt m from) [
      | inl low ↦ omega (arith, one, parts, once.none_below m low)
      | inr high ↦ omega (arith, one, parts, once.none_above m (omega (arith, high)))
    ])
each_once_run from (suc n) numbers once =
    let at = found from numbers (omega (arith, once.once from (omega arith) (omega arith))) in
    let e : from + suc n ≡ (from + 1) + n = omega arith in
    let rest : HasEachOnce (from + 1) ((from + 1) + n) (at.before ++ at.behind) =
    subst (λ (to : ℕ). HasEachOnce (from + 1) to (at.before ++ at.behind)) e
    (rest_once from (from + suc n) at.before at.behind (omega arith) (subst (HasEachOnce from (from + suc n)) at.is once)) in
    subst (λ (l : List ℕ). IsPermutation (from ∷ range_with_len (from + 1) n) l) (sym at.is)
    (IsPermutation-trans (from ∷ range_with_len (from + 1) n) (from ∷ (at.before ++ at.behind)) (at.before ++ from ∷ at.behind)
    (IsPermutation-cons from (range_with_len (from + 1) n) (at.before ++ at.behind) (each_once_run (from + 1) n (at.before ++ at.behind) rest))
    (moved from at.before at.behind))
