-- A list that is cut at the first element that passes a test.
use Rattle.std.proofs.Common.{ℕ, ◌≡◌, ◌<◌, ◌≤◌, ◌+◌, ◌-◌, Bool, true, false, cond, List, [], ◌∷◌, length, take, drop, Some, None, refl, sym, ap, ◌∙◌, subst}
use Rattle.std.proofs.Common.{arith, length-drop}
use Rattle.std.specs.Prelude.{position, nat_lt}
use Rattle.std.specs.List.{slice_split, position_or_len}
use Rattle.std.proofs.lemmas.Bool.{ltb-true, ltb-false}
use Rattle.std.proofs.lemmas.List.{take_all}
use Rattle.std.proofs.lemmas.List.Elements.{All-from_get_or}
use Rattle.std.proofs.lemmas.List.Sums.{fails_before_first}
use Rattle.std.proofs.lemmas.List.Splits.{slice_split_first, slice_split_none}

an_answer : (b : Bool) (n i : ℕ) → cond b (Some n) None ≡ Some i → (b ≡ true) × (n ≡ i)
an_answer true n i h = (refl, cc)
an_answer false n i h = absurd cc

no_answer : (b : Bool) (n : ℕ) → cond b (Some n) None ≡ None → b ≡ false
no_answer true n h = absurd cc
no_answer false n h = refl

past_end : {X : Type 0} (p : X → Bool) (xs : List X) → position p xs ≡ None → length xs ≤ position_or_len p xs
past_end p xs h =
    let at = position_or_len p xs in
    ltb-false at (length xs) (no_answer (nat_lt at (length xs)) at h)

-- if one passes, what stands before it and the pieces of what stands after it
pub split_found : {X : Type 0} (p : X → Bool) (xs : List X) (i : ℕ) (d : X) → position p xs ≡ Some i
    → (slice_split p xs ≡ take i xs ∷ slice_split p (take (length xs - (i + 1)) (drop (i + 1) xs)))
    × (length (take (length xs - (i + 1)) (drop (i + 1) xs)) < length xs)
split_found {X} p xs i d h =
    let rest : List X = drop (i + 1) xs in
    let len : length rest ≡ length xs - (i + 1) = length-drop (i + 1) xs in
    let both = an_answer (nat_lt (position_or_len p xs) (length xs)) (position_or_len p xs) i h in
    let within : position_or_len p xs < length xs = ltb-true (position_or_len p xs) (length xs) both.0 in
    let whole : take (length xs - (i + 1)) rest ≡ rest = take_all (length xs - (i + 1)) rest (omega arith) in
    let cut : slice_split p xs ≡ take i xs ∷ slice_split p rest =
    subst (λ (n : ℕ). slice_split p xs ≡ take n xs ∷ slice_split p (drop (n + 1) xs)) both.1 (slice_split_first p xs d within) in
    (cut ∙ ap (λ (ys : List X). take i xs ∷ slice_split p ys) (sym whole), omega (arith, both.1, within, len, ap length whole))

-- if none passes, the list
pub split_missed : {X : Type 0} (p : X → Bool) (xs : List X) (d : X) → position p xs ≡ None → slice_split p xs ≡ xs ∷ []
split_missed p xs d h =
    let past = past_end p xs h in
    slice_split_none p xs (All-from_get_or (λ x. p x ≡ false) xs d (λ k lt. fails_before_first p xs k d (omega (arith, lt, past))))
