-- Places that occur twice, and lists without such.
use Rattle.std.proofs.Common.{ℕ, ◌≡◌, ◌≢◌, ◌≤◌, List, [], ◌∷◌, refl, sym, ◌∙◌, inl}
use Rattle.std.proofs.Common.{inr, arith, subst, Bool, true, cond}
use Rattle.std.specs.Prelude.{Contains, AllPairs, count_by, nat_le}
use Rattle.std.proofs.lemmas.Bool.{cases_Bool, cond-true, cond-false, le-leb, lt-leb, leb-true}
use Rattle.std.proofs.lemmas.List.Kept.{AllPairs-cons}
use Rattle.std.proofs.lemmas.List.Elements.{All-contains}
use Rattle.mig_mem.proofs.Lists.{pairs_tail}
use Rattle.mig_assemble.specs.Judging.{twice}
use Rattle.mig_assemble.proofs.Elements.{contains_here, contains_later, contains_none, contains_filter}
use Rattle.mig_assemble.proofs.Elements.{filter_contains, all_from, filter_none, count-cons, count_zero, count_some}
use Rattle.mig_assemble.proofs.Rising.{pairs_head}

module _ {X : Type 0} (eq : X → X → Bool) (sound : (x y : X) → eq x y ≡ true → x ≡ y) (own : (x : X) → eq x x ≡ true) where
  abbrev times : X → List X → ℕ
  times x xs = count_by (λ y. eq y x) xs

  -- ---- if nothing occurs twice, no two are equal

  twice_of : (xs : List X) (x : X) → Contains xs x → 2 ≤ times x xs → Contains (twice eq xs) x
  twice_of xs x h two = contains_filter (λ y. nat_le 2 (count_by (λ z. eq z y) xs)) xs x h (le-leb 2 (count_by (λ z. eq z x) xs) two)

  here_again : (x : X) (xs : List X) → Contains xs x → Contains (twice eq (x ∷ xs)) x
  here_again x xs h =
      let parts = count-cons (λ y. eq y x) x xs in
      let one : ◌≡◌ {A = ℕ} (cond (eq x x) 1 0) 1 = cond-true {A = ℕ} (eq x x) 1 0 (own x) in
      let more : 1 ≤ count_by (λ y. eq y x) xs = count_some (λ y. eq y x) xs x h (own x) in
      twice_of (x ∷ xs) x (contains_here x xs) (omega arith)

  twice_later : (x : X) (xs : List X) (y : X) → Contains (twice eq xs) y → Contains (twice eq (x ∷ xs)) y
  twice_later x xs y h =
      let k = filter_contains (λ z. nat_le 2 (count_by (λ w. eq w z) xs)) xs y h in
      let two : 2 ≤ count_by (λ w. eq w y) xs = leb-true 2 (count_by (λ w. eq w y) xs) k.1 in
      let parts = count-cons (λ w. eq w y) x xs in
      twice_of (x ∷ xs) y (contains_later x xs y k.0) (omega arith)

  pub each_once : (xs : List X) → twice eq xs ≡ [] → AllPairs (λ x y. x ≢ y) xs
  each_once [] none = λ i j d lt h. absurd (omega arith)
  each_once (x ∷ xs) none = AllPairs-cons (λ a b. a ≢ b) x xs
      (all_from xs (λ y. x ≢ y) (λ y h e. contains_none x
      (subst (λ (l : List X). Contains l x) none (here_again x xs (subst (λ (w : X). Contains xs w) (sym e) h)))))
      (each_once xs (nothing (twice eq xs) (λ y h. contains_none y (subst (λ (l : List X). Contains l y) none (twice_later x xs y h)))))
    where
      nothing : (l : List X) → ((y : X) → Contains l y → ⊥) → l ≡ []
      nothing [] none_in = refl
      nothing (y ∷ ys) none_in = absurd (none_in y (contains_here y ys))

  -- ---- and the other way round

  at_most_once : (xs : List X) → AllPairs (λ x y. x ≢ y) xs → (z : X) → times z xs ≤ 1
  at_most_once [] all z = omega arith
  at_most_once (x ∷ xs) all z =
      let parts = count-cons (λ y. eq y z) x xs in
      let rest : count_by (λ y. eq y z) xs ≤ 1 = at_most_once xs (pairs_tail (λ a b. a ≢ b) x xs all) z in
      elim (cases_Bool (eq x z)) [
        | inl t ↦
            let one : ◌≡◌ {A = ℕ} (cond (eq x z) 1 0) 1 = cond-true {A = ℕ} (eq x z) 1 0 t in
            let none : count_by (λ y. eq y z) xs ≡ 0 = count_zero (λ y. eq y z) xs (λ y h. elim (cases_Bool (eq y z)) [
              | inl same ↦ absurd (All-contains (λ w. x ≢ w) xs y (pairs_head (λ a b. a ≢ b) x xs all) h (sound x z t ∙ sym (sound y z same)))
              | inr f ↦ f
            ]) in omega arith
        | inr f ↦ let zero : ◌≡◌ {A = ℕ} (cond (eq x z) 1 0) 0 = cond-false {A = ℕ} (eq x z) 1 0 f in omega arith
      ]

  pub none_twice : (xs : List X) → AllPairs (λ x y. x ≢ y) xs → twice eq xs ≡ []
  none_twice xs all = filter_none (λ x. nat_le 2 (count_by (λ y. eq y x) xs)) xs
      (λ x h. let few : count_by (λ y. eq y x) xs ≤ 1 = at_most_once xs all x in lt-leb 2 (count_by (λ y. eq y x) xs) (omega (arith, few)))
