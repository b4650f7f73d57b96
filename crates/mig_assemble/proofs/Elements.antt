-- What a list contains.
use Rattle.std.proofs.Common.{ℕ, ◌≡◌, ◌<◌, ◌≤◌, ◌+◌, suc, zero, List, [], ◌∷◌, ◌++◌, length, map, get_or}
use Rattle.std.proofs.Common.{refl, sym, ap, ◌∙◌, inl, inr, arith, Bool, true, false, cond, subst}
use Rattle.std.specs.Prelude.{◌⊎◌, Contains, All, filter, flat_map, count_by, sum_by}
use Rattle.std.proofs.lemmas.Bool.{cases_Bool, cond_both, cond-true, cond-false}
use Rattle.std.proofs.lemmas.List.Elements.{Contains-get_or, Contains-append_left, Contains-append_right, Contains-append_cases}
use Rattle.std.proofs.lemmas.List.Sums.{sum_by-cons, sum_by-append}

contains_at : {X : Type 0} (x : X) (xs : List X) (y : X) (k : ℕ) → k < length (x ∷ xs) → get_or (x ∷ xs) k y ≡ y → (x ≡ y) ⊎ Contains xs y
contains_at x xs y zero h e = inl e
contains_at x xs y (suc k) h e = inr (k, omega arith, e)

-- what a list has is its first element, or its tail has it
pub contains_cases : {X : Type 0} (x : X) (xs : List X) (y : X) → Contains (x ∷ xs) y → (x ≡ y) ⊎ Contains xs y
contains_cases x xs y h = contains_at x xs y h.0 h.1 h.2

-- a list has its first element
pub contains_here : {X : Type 0} (x : X) (xs : List X) → Contains (x ∷ xs) x
contains_here x xs = (0, omega arith, refl)

-- a list has what its tail has
pub contains_later : {X : Type 0} (x : X) (xs : List X) (y : X) → Contains xs y → Contains (x ∷ xs) y
contains_later x xs y h = (suc h.0, let l : h.0 < length xs = h.1 in omega arith, h.2)

-- an empty list has nothing
pub contains_none : {X : Type 0} {P : Type 0} (y : X) → Contains [] y → P
contains_none y h = let l : h.0 < 0 = h.1 in absurd (omega arith)

-- what holds of whatever a list has holds of all its elements
pub all_from : {X : Type 0} (xs : List X) (P : X → Type 0) → ((x : X) → Contains xs x → P x) → All P xs
all_from xs P each k d h = each (get_or xs k d) (Contains-get_or xs k d h)

-- ---- of lists that are made of others

-- a filter leaves what is in the list and passes
pub contains_filter : {X : Type 0} (p : X → Bool) (xs : List X) (y : X) → Contains xs y → p y ≡ true → Contains (filter p xs) y
contains_filter p [] y h t = contains_none y h
contains_filter {X} p (x ∷ xs) y h t = elim (contains_cases x xs y h) [
  | inl e ↦ let tx : p x ≡ true = ap p e ∙ t in rw tx (subst (λ (z : X). Contains (x ∷ filter p xs) z) e (contains_here x (filter p xs)))
  | inr later ↦ let ih = contains_filter p xs y later t in
      cond_both (p x) (x ∷ filter p xs) (filter p xs) (λ (r : List X). Contains r y) (λ _. contains_later x (filter p xs) y ih) (λ _. ih)
]

-- what a filter leaves was in the list, and passes
pub filter_contains : {X : Type 0} (p : X → Bool) (xs : List X) (y : X) → Contains (filter p xs) y → Contains xs y × (p y ≡ true)
filter_contains p [] y h = contains_none y h
filter_contains {X} p (x ∷ xs) y h = elim (cases_Bool (p x)) [
  | inl t ↦ let h' : Contains (x ∷ filter p xs) y = subst (λ (r : List X). Contains r y) (cond-true (p x) (x ∷ filter p xs) (filter p xs) t) h in
      elim (contains_cases x (filter p xs) y h') [
        | inl e ↦ (subst (λ (z : X). Contains (x ∷ xs) z) e (contains_here x xs), ap p (sym e) ∙ t)
        | inr later ↦ let ih = filter_contains p xs y later in (contains_later x xs y ih.0, ih.1)
      ]
  | inr f ↦ let h' : Contains (filter p xs) y = subst (λ (r : List X). Contains r y) (cond-false (p x) (x ∷ filter p xs) (filter p xs) f) h in
      let ih = filter_contains p xs y h' in (contains_later x xs y ih.0, ih.1)
]

-- the mapped list has the image of each element
pub contains_map : {X Y : Type 0} (f : X → Y) (xs : List X) (x : X) → Contains xs x → Contains (map f xs) (f x)
contains_map f [] x h = contains_none x h
contains_map {X} {Y} f (z ∷ zs) x h = elim (contains_cases z zs x h) [
  | inl e ↦ subst (λ (w : X). Contains (f z ∷ map f zs) (f w)) e (contains_here (f z) (map f zs))
  | inr later ↦ contains_later (f z) (map f zs) (f x) (contains_map f zs x later)
]

-- what a mapped list has is the image of an element
pub map_contains : {X Y : Type 0} (f : X → Y) (xs : List X) (y : Y) → Contains (map f xs) y → (x : X) × Contains xs x × (f x ≡ y)
map_contains f [] y h = contains_none y h
map_contains f (z ∷ zs) y h = elim (contains_cases (f z) (map f zs) y h) [
  | inl e ↦ (z, contains_here z zs, e)
  | inr later ↦ let ih = map_contains f zs y later in (ih.0, contains_later z zs ih.0 ih.1, ih.2)
]

-- what is listed of an element is listed of all of them together
pub contains_flat_map : {X Y : Type 0} (f : X → List Y) (xs : List X) (x : X) (y : Y) → Contains xs x → Contains (f x) y → Contains (flat_map f xs) y
contains_flat_map f [] x y h k = contains_none x h
contains_flat_map {X} f (z ∷ zs) x y h k = elim (contains_cases z zs x h) [
  | inl e ↦ Contains-append_left (f z) (flat_map f zs) y (subst (λ (w : X). Contains (f w) y) (sym e) k)
  | inr later ↦ Contains-append_right (f z) (flat_map f zs) y (contains_flat_map f zs x y later k)
]

-- what is listed of all elements together is listed of one of them
pub flat_map_contains : {X Y : Type 0} (f : X → List Y) (xs : List X) (y : Y) → Contains (flat_map f xs) y → (x : X) × Contains xs x × Contains (f x) y
flat_map_contains f [] y h = contains_none y h
flat_map_contains f (z ∷ zs) y h = elim (Contains-append_cases (f z) (flat_map f zs) y h) [
  | inl here ↦ (z, contains_here z zs, here)
  | inr later ↦ let ih = flat_map_contains f zs y later in (ih.0, contains_later z zs ih.0 ih.1, ih.2)
]

-- ---- what is kept

-- a filter that no element passes leaves nothing
pub filter_none : {X : Type 0} (p : X → Bool) (xs : List X) → ((x : X) → Contains xs x → p x ≡ false) → filter p xs ≡ []
filter_none p [] none = refl
filter_none p (x ∷ xs) none =
    cond-false (p x) (x ∷ filter p xs) (filter p xs) (none x (contains_here x xs)) ∙ filter_none p xs (λ y h. none y (contains_later x xs y h))

-- ---- how often

-- the first element counts one if it passes, and then the tail is counted
pub count-cons : {X : Type 0} (p : X → Bool) (x : X) (xs : List X) → count_by p (x ∷ xs) ≡ cond (p x) 1 0 + count_by p xs
count-cons {X} p x xs = sum_by-cons (λ (y : X). cond (p y) 1 0) x xs

-- the last element counts one if it passes, after those before it
pub count-push : {X : Type 0} (p : X → Bool) (xs : List X) (x : X) → count_by p (xs ++ x ∷ []) ≡ count_by p xs + cond (p x) 1 0
count-push {X} p xs x =
    let parts = sum_by-append (λ (y : X). cond (p y) 1 0) xs (x ∷ []) in
    let one : count_by p (x ∷ []) ≡ cond (p x) 1 0 + 0 = count-cons p x [] in omega arith

-- if no element passes, 0 are counted
pub count_zero : {X : Type 0} (p : X → Bool) (xs : List X) → ((x : X) → Contains xs x → p x ≡ false) → count_by p xs ≡ 0
count_zero p [] none = refl
count_zero {X} p (x ∷ xs) none =
    let parts = count-cons p x xs in
    let here : ◌≡◌ {A = ℕ} (cond (p x) 1 0) 0 = cond-false {A = ℕ} (p x) 1 0 (none x (contains_here x xs)) in
    let ih : count_by p xs ≡ 0 = count_zero p xs (λ y h. none y (contains_later x xs y h)) in
    omega arith

-- if an element passes, at least 1 is counted
pub count_some : {X : Type 0} (p : X → Bool) (xs : List X) (x : X) → Contains xs x → p x ≡ true → 1 ≤ count_by p xs
count_some p [] x h t = contains_none x h
count_some {X} p (z ∷ zs) x h t =
    let parts = count-cons p z zs in
    elim (contains_cases z zs x h) [
      | inl e ↦ let tz : ◌≡◌ {A = ℕ} (cond (p z) 1 0) 1 = cond-true {A = ℕ} (p z) 1 0 (ap p e ∙ t) in omega arith
      | inr later ↦ let ih : 1 ≤ count_by p zs = count_some p zs x later t in omega arith
    ]

-- to sum over a mapped list is to sum the function of each image over the list
pub sum_by-map : {X Y : Type 0} (g : Y → ℕ) (f : X → Y) (xs : List X) → sum_by g (map f xs) ≡ sum_by (λ x. g (f x)) xs
sum_by-map g f [] = refl
sum_by-map {X} {Y} g f (x ∷ xs) = sum_by-cons g (f x) (map f xs) ∙ ap (λ (n : ℕ). g (f x) + n) (sum_by-map g f xs) ∙ sym (sum_by-cons (λ (x : X). g (f x)) x xs)
