-- Elements of lists: tests that agree, elements in order, and what a look-up finds.
use Rattle.std.proofs.Common.{ℕ, ◌≡◌, ◌<◌, ◌≤◌, ◌+◌, List, [], ◌∷◌, ◌++◌, get_or, map, refl, ap, ◌∙◌, inl, inr, arith, zero, suc, Bool, true, ◌||◌, ◌&&◌}
use Rattle.std.specs.Prelude.{◌⊎◌, IsTrue}
use Rattle.std.specs.List.{range_with_len, list_any, filter, find, flat_map, All, AllPairs}
use Rattle.std.specs.Option.{option_map}
use Rattle.std.proofs.lemmas.Bool.{cases_Bool, or_left, or_right, cases_eq}
use Rattle.std.proofs.lemmas.List.Elements.{All-head, All-tail, All-nil, All-cons, All-append, All-filter}
use Rattle.std.proofs.lemmas.List.Folds.{list_any-append}

-- ---- maps and filters

-- to map by one function and then by another is to map by both at once
pub map-map : {X Y Z : Type 0} (g : Y → Z) (f : X → Y) (xs : List X) → map g (map f xs) ≡ map (λ x. g (f x)) xs
map-map g f [] = refl
map-map {X} {Y} {Z} g f (x ∷ xs) = ap (λ (l : List Z). g (f x) ∷ l) (map-map g f xs)

-- functions that agree on each element map a list to one list
pub map_agree : {X Y : Type 0} (f g : X → Y) (xs : List X) → All (λ x. f x ≡ g x) xs → map f xs ≡ map g xs
map_agree f g [] h = refl
map_agree {X} {Y} f g (x ∷ xs) h =
    let here : f x ≡ g x = All-head (λ (y : X). f y ≡ g y) x xs h in
    rw here (ap (λ (l : List Y). g x ∷ l) (map_agree f g xs (All-tail (λ (y : X). f y ≡ g y) x xs h)))

-- tests that agree on each element leave the same list
pub filter_agree_on : {X : Type 0} (f g : X → Bool) (xs : List X) → All (λ x. f x ≡ g x) xs → filter f xs ≡ filter g xs
filter_agree_on f g [] h = refl
filter_agree_on {X} f g (x ∷ xs) h =
    let here : f x ≡ g x = All-head (λ (y : X). f y ≡ g y) x xs h in
    let more : filter f xs ≡ filter g xs = filter_agree_on f g xs (All-tail (λ (y : X). f y ≡ g y) x xs h) in
    rw (here, more) refl

-- what is found in a mapped list is the image of what is found in the list
pub find-map : {X Y : Type 0} (p : Y → Bool) (f : X → Y) (xs : List X) → find p (map f xs) ≡ option_map f (find (λ x. p (f x)) xs)
find-map p f [] = refl
find-map p f (x ∷ xs) = elim (cases_Bool (p (f x))) [ inl t ↦ rw t refl | inr f' ↦ rw f' (find-map p f xs) ]

-- ---- what holds of each element

-- what holds of all that is listed of each element holds of all of it together
pub All-flat_map : {X Y : Type 0} (P : Y → Type 0) (f : X → List Y) (xs : List X) → All (λ x. All P (f x)) xs → All P (flat_map f xs)
All-flat_map P f [] h = All-nil P
All-flat_map {X} P f (x ∷ xs) h =
    All-append P (f x) (flat_map f xs) (All-head (λ (y : X). All P (f y)) x xs h) (All-flat_map P f xs (All-tail (λ (y : X). All P (f y)) x xs h))

-- what holds of each number of a range holds of all of the range
pub All-range : (P : ℕ → Type 0) (a n : ℕ) → ((k : ℕ) → a ≤ k → k < a + n → P k) → All P (range_with_len a n)
All-range P a zero h = All-nil P
All-range P a (suc n) h = All-cons P a (range_with_len (a + 1) n) (h a (omega arith) (omega arith))
    (All-range P (a + 1) n (λ k lo hi. h k (omega arith) (omega arith)))

-- what holds of everything holds of all elements
pub All-any : {X : Type 0} (P : X → Type 0) → ((x : X) → P x) → (xs : List X) → All P xs
All-any P h xs k d lt = h (get_or xs k d)

-- ---- some element passes

-- a list of all that is listed has an element that passes if what is listed of some element has
pub list_any-flat_map : {X Y : Type 0} (p : Y → Bool) (f : X → List Y) (xs : List X) → list_any p (flat_map f xs) ≡ list_any (λ x. list_any p (f x)) xs
list_any-flat_map p f [] = refl
list_any-flat_map p f (x ∷ xs) = list_any-append p (f x) (flat_map f xs) ∙ ap (λ (b : Bool). list_any p (f x) || b) (list_any-flat_map p f xs)

-- a mapped list has an element that passes if the image of some element passes
pub list_any-map : {X Y : Type 0} (p : Y → Bool) (f : X → Y) (xs : List X) → list_any p (map f xs) ≡ list_any (λ x. p (f x)) xs
list_any-map p f [] = refl
list_any-map p f (x ∷ xs) = ap (λ (b : Bool). p (f x) || b) (list_any-map p f xs)

-- a range has a number that passes if one within it does
pub list_any_range : (p : ℕ → Bool) (a n k : ℕ) → a ≤ k → k < a + n → p k ≡ true → list_any p (range_with_len a n) ≡ true
list_any_range p a zero k lo hi h = absurd (omega arith)
list_any_range p a (suc n) k lo hi h = elim (cases_same a k) [
  | inl e ↦ or_left (p a) (list_any p (range_with_len (a + 1) n)) (ap p e ∙ h)
  | inr ne ↦ or_right (p a) (list_any p (range_with_len (a + 1) n)) (list_any_range p (a + 1) n k (omega arith) (omega arith) h)
]
  where
    cases_same : (a k : ℕ) → (a ≡ k) ⊎ (a ≡ k → ⊥)
    cases_same a k = elim (cases_eq a k) [ inl e ↦ inl e | inr e ↦ inr e ]

-- a filtered list has an element that passes if some element passes both tests
pub list_any-filter : {X : Type 0} (p f : X → Bool) (xs : List X) → list_any p (filter f xs) ≡ list_any (λ x. f x && p x) xs
list_any-filter p f [] = refl
list_any-filter p f (x ∷ xs) = elim (cases_Bool (f x)) [
  | inl t ↦ rw t (ap (λ (b : Bool). p x || b) (list_any-filter p f xs))
  | inr t ↦ rw t (list_any-filter p f xs)
]

-- ---- elements in order

-- each element stands in this order to each after it
abbrev pub InOrder : {X : Type 0} → (X → X → Bool) → List X → Type 0
InOrder lt [] = Unit {0}
InOrder lt (x ∷ xs) = All (λ y. IsTrue (lt x y)) xs × InOrder lt xs

-- in a list in order each element is below each later one
pub AllPairs-from_order : {X : Type 0} (lt : X → X → Bool) (xs : List X) → InOrder lt xs → AllPairs (λ x y. IsTrue (lt x y)) xs
AllPairs-from_order lt [] h i j d before within = absurd (omega arith)
AllPairs-from_order lt (x ∷ xs) h zero zero d before within = absurd (omega arith)
AllPairs-from_order lt (x ∷ xs) h zero (suc j) d before within = h.0 j d (omega arith)
AllPairs-from_order lt (x ∷ xs) h (suc i) zero d before within = absurd (omega arith)
AllPairs-from_order lt (x ∷ xs) h (suc i) (suc j) d before within = AllPairs-from_order lt xs h.1 i j d (omega arith) (omega arith)

-- a list is in order if each element is below each later one
pub order_from_AllPairs : {X : Type 0} (lt : X → X → Bool) (xs : List X) → AllPairs (λ x y. IsTrue (lt x y)) xs → InOrder lt xs
order_from_AllPairs lt [] h = tt
order_from_AllPairs lt (x ∷ xs) h = (
  (λ k d within. h 0 (suc k) d (omega arith) (omega arith)),
  order_from_AllPairs lt xs (λ i j d before within. h (suc i) (suc j) d (omega arith) (omega arith)),
)

-- lists in order, each element of the first below each of the second, are in order together
pub order-append : {X : Type 0} (lt : X → X → Bool) (xs ys : List X) → InOrder lt xs → InOrder lt ys
    → All (λ x. All (λ y. IsTrue (lt x y)) ys) xs → InOrder lt (xs ++ ys)
order-append lt [] ys hx hy across = hy
order-append {X} lt (x ∷ xs) ys hx hy across =
    let P : X → Type 0 = λ z. All (λ y. IsTrue (lt z y)) ys in (
      All-append (λ (y : X). IsTrue (lt x y)) xs ys hx.0 (All-head P x xs across),
      order-append lt xs ys hx.1 hy (All-tail P x xs across),
    )

-- a filter leaves a list in order
pub order-filter : {X : Type 0} (lt : X → X → Bool) (f : X → Bool) (xs : List X) → InOrder lt xs → InOrder lt (filter f xs)
order-filter lt f [] h = tt
order-filter {X} lt f (x ∷ xs) h = elim (cases_Bool (f x)) [
  | inl t ↦ rw t ((All-filter f (λ (y : X). IsTrue (lt x y)) xs h.0, order-filter lt f xs h.1))
  | inr t ↦ rw t (order-filter lt f xs h.1)
]
