-- The test of a list of zeros, and what it says.
use Rattle.std.proofs.Common.{◌≡◌, ℕ, Bool, true, false, List, [], ◌∷◌, refl, sym, eqb, inl, inr}
use Rattle.std.specs.Prelude.{◌↔◌, IsTrue}
use Rattle.std.proofs.lemmas.Bool.{cases_Bool, and_parts, eqb-true, eq-eqb}
use Rattle.std.proofs.lemmas.List.Elements.{All-head, All-tail, All-nil, All-cons}
use Rattle.mig_zero.specs.Zero.{IsZero, is_zero}

-- bytes that pass the test for zeros are all zero
pub zeros_from_test : (xs : List ℕ) → is_zero xs ≡ true → IsZero xs
zeros_from_test [] h = All-nil (λ x. x ≡ 0)
zeros_from_test (x ∷ xs) h =
    let parts = and_parts (eqb x 0) (is_zero xs) h in
    All-cons (λ y. y ≡ 0) x xs (eqb-true x 0 parts.0) (zeros_from_test xs parts.1)

test_from_zeros : (xs : List ℕ) → IsZero xs → is_zero xs ≡ true
test_from_zeros [] h = refl
test_from_zeros (x ∷ xs) h =
    let first : eqb x 0 ≡ true = eq-eqb x 0 (All-head (λ y. y ≡ 0) x xs h) in
    rw first (test_from_zeros xs (All-tail (λ y. y ≡ 0) x xs h))

-- a test for zeros is the test of each byte
pub zero_test : (xs : List ℕ) (b : Bool) → (IsTrue b ↔ IsZero xs) → b ≡ is_zero xs
zero_test xs true h = sym (test_from_zeros xs (h.0 refl))
zero_test xs false h = elim (cases_Bool (is_zero xs)) [
  | inl t ↦ let wrong : false ≡ true = h.1 (zeros_from_test xs t) in absurd cc
  | inr f ↦ sym f
]
