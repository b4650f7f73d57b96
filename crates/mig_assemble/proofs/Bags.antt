-- Lists with the same elements, each as often, in whatever order.
use Rattle.std.proofs.Common.{ℕ, ◌≡◌, ◌+◌, List, [], ◌∷◌, ◌++◌, length, map, refl, sym, ap, ◌∙◌, inl, inr, arith, Bool, cond, subst}
use Rattle.std.specs.Prelude.{◌||◌, Contains, flat_map, count_by, sum_by, nat_lt, IsPermutation}
use Rattle.std.specs.List.{list_any}
use Rattle.std.proofs.lemmas.Bool.{cases_Bool, lt-ltb}
use Rattle.std.proofs.lemmas.List.Elements.{Contains-append_left, Contains-append_right, Contains-append_cases}
use Rattle.std.proofs.lemmas.List.Sums.{sum_by-cons, sum_by-append}
use Rattle.std.proofs.lemmas.List.Sorted.{IsPermutation-sym, Contains-permutation, sum_by-IsPermutation}
use Rattle.mig_mem.proofs.Counts.{sum_by-flat_map}
use Rattle.mig_assemble.proofs.Elements.{contains_map, map_contains, contains_flat_map, flat_map_contains, sum_by-map}

-- Each element of the one is in the other, and each sum over them is the same. What is made of the
-- elements one by one keeps this, which is why it is easier to handle than a list of exchanges.
pub record SameBag {X : Type 0} (xs ys : List X) : Type 0 where
  pub there : (x : X) → Contains xs x → Contains ys x
  pub back : (x : X) → Contains ys x → Contains xs x
  pub sums : (f : X → ℕ) → sum_by f xs ≡ sum_by f ys

-- a list has the same elements as each of its permutations, each as often
pub bag_permutation : {X : Type 0} (xs ys : List X) → IsPermutation xs ys → SameBag xs ys
bag_permutation xs ys perm = record {
  there = λ x h. Contains-permutation xs ys x perm h;
  back = λ x h. Contains-permutation ys xs x (IsPermutation-sym xs ys perm) h;
  sums = λ f. sym (sum_by-IsPermutation f xs ys perm);
}

-- lists that have the same elements as a third, each as often, have them as each other
pub bag_trans : {X : Type 0} (xs ys zs : List X) → SameBag xs ys → SameBag ys zs → SameBag xs zs
bag_trans xs ys zs a b = record { there = λ x h. b.there x (a.there x h); back = λ x h. a.back x (b.back x h); sums = λ f. a.sums f ∙ b.sums f }

-- lists with the same elements, each as often, are mapped to such lists
pub bag_map : {X Y : Type 0} (f : X → Y) (xs ys : List X) → SameBag xs ys → SameBag (map f xs) (map f ys)
bag_map {X} {Y} f xs ys bag = record {
  there = λ y h. (let k = map_contains f xs y h in subst (λ (z : Y). Contains (map f ys) z) k.2 (contains_map f ys k.0 (bag.there k.0 k.1)));
  back = λ y h. (let k = map_contains f ys y h in subst (λ (z : Y). Contains (map f xs) z) k.2 (contains_map f xs k.0 (bag.back k.0 k.1)));
  sums = λ g. sum_by-map g f xs ∙ bag.sums (λ x. g (f x)) ∙ sym (sum_by-map g f ys);
}

-- lists with the same elements, each as often, give such lists of what a function lists of each
pub bag_flat_map : {X Y : Type 0} (f : X → List Y) (xs ys : List X) → SameBag xs ys → SameBag (flat_map f xs) (flat_map f ys)
bag_flat_map f xs ys bag = record {
  there = λ y h. (let k = flat_map_contains f xs y h in contains_flat_map f ys k.0 y (bag.there k.0 k.1) k.2);
  back = λ y h. (let k = flat_map_contains f ys y h in contains_flat_map f xs k.0 y (bag.back k.0 k.1) k.2);
  sums = λ g. sum_by-flat_map g f xs ∙ bag.sums (λ x. sum_by g (f x)) ∙ sym (sum_by-flat_map g f ys);
}

-- the same list before both
pub bag_behind : {X : Type 0} (zs xs ys : List X) → SameBag xs ys → SameBag (zs ++ xs) (zs ++ ys)
bag_behind zs xs ys bag = record {
  there = λ x h. elim (Contains-append_cases zs xs x h) [ inl a ↦ Contains-append_left zs ys x a | inr b ↦ Contains-append_right zs ys x (bag.there x b) ];
  back = λ x h. elim (Contains-append_cases zs ys x h) [ inl a ↦ Contains-append_left zs xs x a | inr b ↦ Contains-append_right zs xs x (bag.back x b) ];
  sums = λ f. sum_by-append f zs xs ∙ ap (λ (n : ℕ). sum_by f zs + n) (bag.sums f) ∙ sym (sum_by-append f zs ys);
}

-- lists with the same elements, each as often, are of one length
pub bag_length : {X : Type 0} (xs ys : List X) → SameBag xs ys → length xs ≡ length ys
bag_length xs ys bag = length_counted xs ∙ bag.sums (λ _. 1) ∙ sym (length_counted ys)
  where
    length_counted : {X : Type 0} (xs : List X) → length xs ≡ sum_by (λ (x : X). 1) xs
    length_counted [] = refl
    length_counted {X} (x ∷ xs) =
        let ih = length_counted xs in
        let more : sum_by (λ (x : X). 1) (x ∷ xs) ≡ 1 + sum_by (λ (x : X). 1) xs = sum_by-cons (λ (x : X). 1) x xs in omega arith

-- of lists with the same elements, one has an element that passes if the other has
pub bag_any : {X : Type 0} (p : X → Bool) (xs ys : List X) → SameBag xs ys → list_any p xs ≡ list_any p ys
bag_any p xs ys bag = any_counted p xs ∙ ap (nat_lt 0) (bag.sums (λ x. cond (p x) 1 0)) ∙ sym (any_counted p ys)
  where
    any_counted : {X : Type 0} (p : X → Bool) (xs : List X) → list_any p xs ≡ nat_lt 0 (count_by p xs)
    any_counted p [] = refl
    any_counted {X} p (x ∷ xs) =
        let ih = any_counted p xs in
        let more : count_by p (x ∷ xs) ≡ cond (p x) 1 0 + count_by p xs = sum_by-cons (λ (y : X). cond (p y) 1 0) x xs in
        elim (cases_Bool (p x)) [
          | inl e ↦
              let one : ◌≡◌ {A = ℕ} (cond (p x) 1 0) 1 = ap (λ (b : Bool). cond {A = ℕ} b 1 0) e in
              ap (λ (b : Bool). b || list_any p xs) e ∙ sym (lt-ltb 0 (count_by p (x ∷ xs)) (omega arith))
          | inr e ↦
              let none : ◌≡◌ {A = ℕ} (cond (p x) 1 0) 0 = ap (λ (b : Bool). cond {A = ℕ} b 1 0) e in
              let same : count_by p xs ≡ count_by p (x ∷ xs) = omega arith in
              ap (λ (b : Bool). b || list_any p xs) e ∙ ih ∙ ap (nat_lt 0) same
        ]
