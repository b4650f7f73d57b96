-- What stands after the last element that passes a test: one element more at a list's end.
use Rattle.std.proofs.Common.{ℕ, ◌≡◌, ◌≤◌, ◌+◌, ◌-◌, List, [], ◌∷◌, ◌++◌, length, drop, reverse, refl, ap, ◌∙◌, inl, inr, arith, Some, None, Bool, true, false}
use Rattle.std.proofs.Common.{cond, eqb}
use Rattle.std.specs.Prelude.{position, nat_lt, not}
use Rattle.std.specs.List.{prefix_len, suffix_len, position_or_len, after_last}
use Rattle.std.proofs.lemmas.Bool.{cond-true, cond-false, le-ltb, cases_eq, cases_Bool, eq-eqb, ne_eqb, not_from_false}
use Rattle.std.proofs.lemmas.List.{reverse-append, length_push, drop-append-le}
use Rattle.std.proofs.lemmas.List.Sums.{prefix_len-le-length}
use Rattle.std.proofs.lemmas.List.Folds.{position_or_len_push}

-- one element more that passes at a list's end
suffix_goes_on : {X : Type 0} (p : X → Bool) (xs : List X) (y : X) → p y ≡ true → suffix_len p (xs ++ y ∷ []) ≡ 1 + suffix_len p xs
suffix_goes_on p xs y more = ap (λ zs. prefix_len p zs) (reverse-append xs (y ∷ [])) ∙ cond-true (p y) (1 + prefix_len p (reverse xs)) 0 more

-- what doesn't pass stands there too
pub after_last-more : {X : Type 0} (p : X → Bool) (xs : List X) (y : X) → p y ≡ false → after_last p (xs ++ y ∷ []) ≡ after_last p xs ++ y ∷ []
after_last-more p xs y other =
    let run : suffix_len (λ x. not (p x)) (xs ++ y ∷ []) ≡ 1 + suffix_len (λ x. not (p x)) xs =
    suffix_goes_on (λ x. not (p x)) xs y (not_from_false (p y) other) in
    let len : length (xs ++ y ∷ []) ≡ length xs + 1 = length_push xs y in
    let count : length (xs ++ y ∷ []) - suffix_len (λ x. not (p x)) (xs ++ y ∷ []) ≡ length xs - suffix_len (λ x. not (p x)) xs = omega arith in
    ap (λ (n : ℕ). drop n (xs ++ y ∷ [])) count ∙ drop-append-le (length xs - suffix_len (λ x. not (p x)) xs) xs (y ∷ []) (omega arith)

-- if no element passes, none did before the last one, and the last one does not
place_none : (n l : ℕ) → cond (nat_lt n l) (Some n) None ≡ None → l ≤ n
place_none n l h = elim (cases_Bool (nat_lt n l)) [
  | inl t ↦ let some : cond (nat_lt n l) (Some n) None ≡ Some n = cond-true (nat_lt n l) (Some n) None t in absurd cc
  | inr f ↦ grind arith
]

-- if no element of a list passes, none before its last one does, and the last one doesn't either
pub position-push_none : {X : Type 0} (p : X → Bool) (xs : List X) (y : X) → position p (xs ++ y ∷ []) ≡ None → (position p xs ≡ None) × (p y ≡ false)
position-push_none p xs y h =
    let past : length (xs ++ y ∷ []) ≤ position_or_len p (xs ++ y ∷ []) = place_none (position_or_len p (xs ++ y ∷ [])) (length (xs ++ y ∷ [])) h in
    let len : length (xs ++ y ∷ []) ≡ length xs + 1 = length_push xs y in
    let most : position_or_len p xs ≤ length xs = prefix_len-le-length (λ x. not (p x)) xs in
    let step = position_or_len_push p xs y in
    elim (cases_eq (position_or_len p xs) (length xs)) [
      | inl e ↦
          let all : eqb (position_or_len p xs) (length xs) ≡ true = eq-eqb (position_or_len p xs) (length xs) e in
          let before : position p xs ≡ None = cond-false (nat_lt (position_or_len p xs) (length xs))
          (Some (position_or_len p xs)) None (le-ltb (position_or_len p xs) (length xs) (omega arith)) in
          elim (cases_Bool (p y)) [
            | inl t ↦
                let is : position_or_len p (xs ++ y ∷ []) ≡ length xs + 0 = step ∙ rw (all, t) refl in
                absurd (omega arith)
            | inr f ↦ (before, f)
          ]
      | inr ne ↦
          let some : eqb (position_or_len p xs) (length xs) ≡ false = ne_eqb (position_or_len p xs) (length xs) ne in
          let is : position_or_len p (xs ++ y ∷ []) ≡ position_or_len p xs = step ∙ rw some refl in
          absurd (omega arith)
    ]
