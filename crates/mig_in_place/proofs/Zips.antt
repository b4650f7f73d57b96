-- One element of a list after another is changed in place.
use Rattle.std.proofs.Common.{ℕ, zero, suc, ◌≡◌, ◌+◌, ◌<◌, List, [], ◌∷◌, ◌++◌, length, map, take, drop, set, get_or, sym, ap, ◌∙◌, arith}

-- one more of a list is changed in place
next_step : {X : Type 0} (f : X → X) (xs : List X) (i : ℕ) (x : X) → i < length xs → get_or (map f (take i xs) ++ drop i xs) i x ≡ x
    → set (map f (take i xs) ++ drop i xs) i (f x) ≡ map f (take (suc i) xs) ++ drop (suc i) xs
next_step f [] i x lt is = absurd (omega (arith, lt))
next_step f (y ∷ xs) zero x lt is = ap (λ z. f z ∷ xs) (sym is)
next_step {X} f (y ∷ xs) (suc i) x lt is = ap (λ (l : List X). f y ∷ l) (next_step f xs i x (omega (arith, lt)) is)

-- if the first i elements of a list are changed, changing the next one makes it i + 1 of them
pub next_more : {X : Type 0} (f : X → X) (xs ys : List X) (i : ℕ) (x now : X) → i < length xs
    → ys ≡ map f (take i xs) ++ drop i xs → get_or ys i x ≡ x → now ≡ f x
    → set ys i now ≡ map f (take (i + 1) xs) ++ drop (i + 1) xs
next_more {X} f xs ys i x now lt is here e =
    let one : suc i ≡ i + 1 = omega arith in
    let there : get_or (map f (take i xs) ++ drop i xs) i x ≡ x = ap (λ (l : List X). get_or l i x) (sym is) ∙ here in
    ap (λ (l : List X). set l i now) is ∙ ap (λ (z : X). set (map f (take i xs) ++ drop i xs) i z) e ∙ next_step f xs i x lt there
    ∙ ap (λ (n : ℕ). map f (take n xs) ++ drop n xs) one
