-- The least element of a list, and the least that occurs twice.
use Rattle.std.proofs.Common.{ℕ, ◌≡◌, ◌≤◌, List, [], ◌∷◌, ◌++◌, map, get_or, refl, sym, ap, ◌∙◌, inl}
use Rattle.std.proofs.Common.{inr, arith, Option, Some, None, Bool, true, false, cond, subst}
use Rattle.std.specs.Prelude.{◌⊎◌, Contains, All, filter, count_by, nat_lt, nat_le}
use Rattle.std.specs.Cmp.{IsStrictWeakOrder}
use Rattle.std.proofs.lemmas.Bool.{cases_Bool, cond_both, cond-true, cond-false, ltb-false, le-leb, leb-true}
use Rattle.std.proofs.lemmas.List.Elements.{All-cons, All-nil, All-contains, Contains-append_left, Contains-push, Contains-push_cases}
use Rattle.std.proofs.lemmas.List.Sorted.{IsStrictWeakOrder-by_number}
use Rattle.std.proofs.lemmas.Option.{same_Some}
use Rattle.mig_assemble.specs.Judging.{least, lesser, twice}
use Rattle.mig_assemble.proofs.Elements.{contains_cases, contains_here, contains_later, contains_none, all_from, contains_filter}
use Rattle.mig_assemble.proofs.Elements.{filter_contains, contains_map, count-cons, count-push, count_zero, count_some}

-- numbers stand in a strict weak order
pub nat_order : IsStrictWeakOrder nat_lt
nat_order = IsStrictWeakOrder-by_number (λ (n : ℕ). n)

-- of two numbers of which neither is below the other, both are one
pub numbers_apart : (x y : ℕ) → nat_lt x y ≡ false → nat_lt y x ≡ false → x ≡ y
numbers_apart x y h k = let a : y ≤ x = ltb-false x y h in let b : x ≤ y = ltb-false y x k in omega arith

-- a list that has no least element is empty
pub least_none : {X : Type 0} (lt : X → X → Bool) (xs : List X) → least lt xs ≡ None → xs ≡ []
least_none lt [] e = refl
least_none lt (x ∷ xs) e = absurd cc

-- one element more at the end
abbrev pub newer : {X : Type 0} → (X → X → Bool) → Option X → X → X
newer lt None y = y
newer lt (Some m) y = cond (lt y m) y m

-- ---- elements that a key distinguishes

module _ {X K : Type 0} (key : X → K) (eq : K → K → Bool) (same : (k l : K) → k ≡ l → eq k l ≡ true) where
  one_or_two : (xs : List X) (x y : X) → Contains xs x → Contains xs y → key x ≡ key y → (x ≡ y) ⊎ (2 ≤ count_by (λ k. eq k (key x)) (map key xs))
  one_or_two [] x y h k e = contains_none x h
  one_or_two (z ∷ zs) x y h k e =
      let is : K → Bool = λ k. eq k (key x) in
      let some : (w : X) → Contains zs w → key w ≡ key x → 1 ≤ count_by is (map key zs) =
      λ w in_zs e. count_some is (map key zs) (key w) (contains_map key zs w in_zs) (same (key w) (key x) e) in
      let one : key z ≡ key x → ◌≡◌ {A = ℕ} (cond (is (key z)) 1 0) 1 = λ e. cond-true {A = ℕ} (is (key z)) 1 0 (same (key z) (key x) e) in
      let parts = count-cons is (key z) (map key zs) in
      elim (contains_cases z zs x h) [
        | inl a ↦ elim (contains_cases z zs y k) [
          | inl b ↦ inl (sym a ∙ b)
          | inr b ↦ inr (let t = one (ap key a) in let n : 1 ≤ count_by is (map key zs) = some y b (sym e) in omega arith)
        ]
        | inr a ↦ elim (contains_cases z zs y k) [
          | inl b ↦ inr (let t = one (ap key b ∙ sym e) in let n : 1 ≤ count_by is (map key zs) = some x a refl in omega arith)
          | inr b ↦ elim (one_or_two zs x y a b e) [ inl both ↦ inl both | inr two ↦ inr (let n : 2 ≤ count_by is (map key zs) = two in omega arith) ]
        ]
      ]

  -- if no key occurs twice, a key is one element's
  pub own_key : (xs : List X) → twice eq (map key xs) ≡ [] → (x y : X) → Contains xs x → Contains xs y → key x ≡ key y → x ≡ y
  own_key xs none x y h k e = elim (one_or_two xs x y h k e) [
    | inl both ↦ both
    | inr two ↦ contains_none (key x) (subst (λ (l : List K). Contains l (key x)) none
        (contains_filter (λ k. nat_le 2 (count_by (λ l. eq l k) (map key xs))) (map key xs) (key x) (contains_map key xs x h)
        (le-leb 2 (count_by (λ l. eq l (key x)) (map key xs)) two)))
  ]

-- ---- the least

module _ {X : Type 0} (lt : X → X → Bool) (o : IsStrictWeakOrder lt) where
  pub not_below_itself : (x : X) → lt x x ≡ false
  not_below_itself x = elim (cases_Bool (lt x x)) [ inl e ↦ o.one_way x x e | inr e ↦ e ]

  lesser-is : (x : X) (xs : List X) (y : X) → Contains xs y → All (λ z. lt z y ≡ false) xs
      → Contains (x ∷ xs) (cond (lt y x) y x) × All (λ z. lt z (cond (lt y x) y x) ≡ false) (x ∷ xs)
  lesser-is x xs y in_xs all = cond_both (lt y x) y x (λ r. Contains (x ∷ xs) r × All (λ z. lt z r ≡ false) (x ∷ xs))
      (λ e. (contains_later x xs y in_xs, All-cons (λ z. lt z y ≡ false) x xs (o.one_way y x e) all))
      (λ e. (contains_here x xs, All-cons (λ z. lt z x ≡ false) x xs (not_below_itself x) (λ k d h. o.chain (get_or xs k d) y x (all k d h) e)))

  -- what `least` gives is in the list, and nothing there is below it
  pub least-is : (xs : List X) (m : X) → least lt xs ≡ Some m → Contains xs m × All (λ z. lt z m ≡ false) xs
  least-is [] m e = absurd cc
  least-is (x ∷ []) m e = rw (← same_Some x m e) (contains_here x [], All-cons (λ z. lt z x ≡ false) x [] (not_below_itself x) (All-nil (λ z. lt z x ≡ false)))
  least-is (x ∷ (y ∷ ys)) m e =
      let z : X = lesser lt y (least lt ys) in
      let ih = least-is (y ∷ ys) z refl in
      rw (← same_Some (cond (lt z x) z x) m e) (lesser-is x (y ∷ ys) z ih.0 ih.1)

  least_some : (xs : List X) (y : X) → Contains xs y → (m : X) × (least lt xs ≡ Some m)
  least_some [] y h = contains_none y h
  least_some (x ∷ xs) y h = (lesser lt x (least lt xs), refl)

  -- an element that no other is below is what `least` gives
  pub least_from : (xs : List X) (m : X) → ((x : X) → Contains xs x → lt x m ≡ false → lt m x ≡ false → x ≡ m)
      → Contains xs m → All (λ z. lt z m ≡ false) xs → least lt xs ≡ Some m
  least_from xs m apart in_xs all =
      let found = least_some xs m in_xs in
      let is = least-is xs found.0 found.1 in
      found.1 ∙ ap (λ (z : X). Some z)
      (apart found.0 is.0 (All-contains (λ z. lt z m ≡ false) xs found.0 all is.0) (All-contains (λ z. lt z found.0 ≡ false) xs m is.1 in_xs))

  -- lists with the same elements have one least element
  pub least_same : (xs ys : List X) → ((x y : X) → Contains ys x → Contains ys y → lt x y ≡ false → lt y x ≡ false → x ≡ y)
      → ((x : X) → Contains xs x → Contains ys x) → ((x : X) → Contains ys x → Contains xs x) → least lt xs ≡ least lt ys
  least_same [] [] apart there back = refl
  least_same [] (y ∷ ys) apart there back = contains_none y (back y (contains_here y ys))
  least_same (x ∷ xs) ys apart there back =
      let m : X = lesser lt x (least lt xs) in
      let is = least-is (x ∷ xs) m refl in
      sym (least_from ys m (λ z in_ys. apart z m in_ys (there m is.0)) (there m is.0)
      (all_from ys (λ z. lt z m ≡ false) (λ z in_ys. All-contains (λ z. lt z m ≡ false) (x ∷ xs) z is.1 (back z in_ys))))

  -- and so have those of their elements that pass a test
  pub least_filter : (p q : X → Bool) → ((x : X) → p x ≡ q x) → (xs ys : List X)
      → ((x y : X) → Contains (filter q ys) x → Contains (filter q ys) y → lt x y ≡ false → lt y x ≡ false → x ≡ y)
      → ((x : X) → Contains xs x → Contains ys x) → ((x : X) → Contains ys x → Contains xs x)
      → least lt (filter p xs) ≡ least lt (filter q ys)
  least_filter p q same xs ys apart there back = least_same (filter p xs) (filter q ys) apart
      (λ x h. let k = filter_contains p xs x h in contains_filter q ys x (there x k.0) (sym (same x) ∙ k.1))
      (λ x h. let k = filter_contains q ys x h in contains_filter p xs x (back x k.0) (same x ∙ k.1))

  -- ---- one element more

  newer-lesser : (x : X) (r : Option X) (y : X) → lesser lt x (Some (newer lt r y)) ≡ newer lt (Some (lesser lt x r)) y
  newer-lesser x None y = refl
  newer-lesser x (Some m) y = go (lt y m) refl (lt m x) refl (lt y x) refl
    where
      go : (a : Bool) → lt y m ≡ a → (b : Bool) → lt m x ≡ b → (c : Bool) → lt y x ≡ c
          → cond (lt (cond (lt y m) y m) x) (cond (lt y m) y m) x ≡ cond (lt y (cond (lt m x) m x)) y (cond (lt m x) m x)
      go true ea true eb true ec = rw (ea, eb, ea, ec) refl
      go true ea true eb false ec = let f : lt m x ≡ false = o.chain m y x (o.one_way y m ea) ec in absurd cc
      go true ea false eb c ec = rw (ea, eb) refl
      go false ea true eb c ec = rw (ea, eb, ea) refl
      go false ea false eb true ec = let f : lt y x ≡ false = o.chain y m x ea eb in absurd cc
      go false ea false eb false ec = rw (ea, eb, ec) refl

  pub least-push : (xs : List X) (y : X) → least lt (xs ++ y ∷ []) ≡ Some (newer lt (least lt xs) y)
  least-push [] y = refl
  least-push (x ∷ xs) y = ap (λ (r : Option X). Some (lesser lt x r)) (least-push xs y) ∙ ap (λ (z : X). Some z) (newer-lesser x (least lt xs) y)

  -- ---- the least that occurs twice

  module _ (eq : X → X → Bool) (apart : (x y : X) → lt x y ≡ false → lt y x ≡ false → x ≡ y)
      (sound : (x y : X) → eq x y ≡ true → x ≡ y) (own : (x : X) → eq x x ≡ true) where
    -- of lists in which each element comes as often
    pub least_twice : (xs ys : List X) → ((x : X) → count_by (λ y. eq y x) xs ≡ count_by (λ y. eq y x) ys)
        → ((x : X) → Contains xs x → Contains ys x) → ((x : X) → Contains ys x → Contains xs x)
        → least lt (twice eq xs) ≡ least lt (twice eq ys)
    least_twice xs ys counts there back =
        least_filter (λ x. nat_le 2 (count_by (λ y. eq y x) xs)) (λ x. nat_le 2 (count_by (λ y. eq y x) ys))
        (λ x. ap (nat_le 2) (counts x)) xs ys (λ x y _ _. apart x y) there back

    twice_from : (xs : List X) (x : X) → Contains xs x → 2 ≤ count_by (λ y. eq y x) xs → Contains (twice eq xs) x
    twice_from xs x h two = contains_filter (λ x. nat_le 2 (count_by (λ y. eq y x) xs)) xs x h (le-leb 2 (count_by (λ y. eq y x) xs) two)

    twice_cases : (xs : List X) (x : X) → Contains (twice eq xs) x → Contains xs x × (2 ≤ count_by (λ y. eq y x) xs)
    twice_cases xs x h =
        let k = filter_contains (λ x. nat_le 2 (count_by (λ y. eq y x) xs)) xs x h in
        (k.0, leb-true 2 (count_by (λ y. eq y x) xs) k.1)

    -- what occurs twice still does with one more at the end
    twice_push : (xs : List X) (y x : X) → Contains (twice eq xs) x → Contains (twice eq (xs ++ y ∷ [])) x
    twice_push xs y x h =
        let k = twice_cases xs x h in
        let two : 2 ≤ count_by (λ z. eq z x) xs = k.1 in
        let parts = count-push (λ z. eq z x) xs y in
        twice_from (xs ++ y ∷ []) x (Contains-append_left xs (y ∷ []) x k.0) (omega arith)

    -- and else it is the one at the end
    push_twice : (xs : List X) (y x : X) → Contains (twice eq (xs ++ y ∷ [])) x → (Contains (twice eq xs) x) ⊎ ((y ≡ x) × (1 ≤ count_by (λ z. eq z x) xs))
    push_twice xs y x h =
        let k = twice_cases (xs ++ y ∷ []) x h in
        let two : 2 ≤ count_by (λ z. eq z x) (xs ++ y ∷ []) = k.1 in
        let parts = count-push (λ z. eq z x) xs y in
        elim (cases_Bool (eq y x)) [
          | inl t ↦
              let one : ◌≡◌ {A = ℕ} (cond (eq y x) 1 0) 1 = cond-true {A = ℕ} (eq y x) 1 0 t in
              inr (sound y x t, omega arith)
          | inr f ↦
              let none : ◌≡◌ {A = ℕ} (cond (eq y x) 1 0) 0 = cond-false {A = ℕ} (eq y x) 1 0 f in
              inl (twice_from xs x (elim (Contains-push_cases xs y x k.0) [
                | inl a ↦ a
                | inr e ↦ let t : eq y x ≡ true = subst (λ (w : X). eq y w ≡ true) e (own y) in absurd cc
              ]) (omega arith))
        ]

    -- one more that wasn't there
    pub least_twice-new : (xs : List X) (y : X) → ((x : X) → Contains xs x → eq x y ≡ false) → least lt (twice eq (xs ++ y ∷ [])) ≡ least lt (twice eq xs)
    least_twice-new xs y new = least_same (twice eq (xs ++ y ∷ [])) (twice eq xs) (λ x z _ _. apart x z)
        (λ x h. elim (push_twice xs y x h) [
          | inl a ↦ a
          | inr b ↦
              let none : count_by (λ z. eq z y) xs ≡ 0 = count_zero (λ z. eq z y) xs new in
              let none_x : count_by (λ z. eq z x) xs ≡ 0 = subst (λ (w : X). count_by (λ z. eq z w) xs ≡ 0) b.0 none in
              let one : 1 ≤ count_by (λ z. eq z x) xs = b.1 in
              absurd (omega arith)
        ])
        (λ x h. twice_push xs y x h)

    -- and one that was
    pub least_twice-again : (xs : List X) (y : X) → Contains xs y → least lt (twice eq (xs ++ y ∷ [])) ≡ Some (lesser lt y (least lt (twice eq xs)))
    least_twice-again xs y old =
        let one : 1 ≤ count_by (λ z. eq z y) xs = count_some (λ z. eq z y) xs y old (own y) in
        let parts = count-push (λ z. eq z y) xs y in
        let more : ◌≡◌ {A = ℕ} (cond (eq y y) 1 0) 1 = cond-true {A = ℕ} (eq y y) 1 0 (own y) in
        least_same (twice eq (xs ++ y ∷ [])) (y ∷ twice eq xs) (λ x z _ _. apart x z)
        (λ x h. elim (push_twice xs y x h) [
          | inl a ↦ contains_later y (twice eq xs) x a
          | inr b ↦ subst (λ (w : X). Contains (y ∷ twice eq xs) w) b.0 (contains_here y (twice eq xs))
        ])
        (λ x h. elim (contains_cases y (twice eq xs) x h) [
          | inl e ↦ subst (λ (w : X). Contains (twice eq (xs ++ y ∷ [])) w) e (twice_from (xs ++ y ∷ []) y (Contains-push xs y) (omega arith))
          | inr a ↦ twice_push xs y x a
        ])
