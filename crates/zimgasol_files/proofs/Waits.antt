-- The bytes of a piece that wait.
use Rattle.std.proofs.Common.{ℕ, ◌≡◌, ◌+◌, ◌-◌, ◌<◌, ◌≤◌, ◌^◌, List, [], ◌++◌, length, take, drop, min, Option, Some, None, sym, ap, ◌∙◌, inl, inr, arith}
use Rattle.std.specs.Prelude.{slice_range}
use Rattle.std.specs.Io.KnownBytes.{IsAtEnd, prepend_known}
use Rattle.std.proofs.lemmas.Bool.{cases_lt}
use Rattle.std.proofs.lemmas.List.{drop_all, drop-drop, drop-take, length-take, nil_from_length}

none_at : (b : List ℕ) (s e : ℕ) → e ≤ s → slice_range b s e ≡ []
none_at b s e past = nil_from_length (slice_range b s e)
    (let len : length (slice_range b s e) ≡ min (e - s) (length (drop s b)) = length-take (e - s) (drop s b) in omega (arith, len, past))

-- without the first `n` bytes
pub taken_is : (b : List ℕ) (s e n t : ℕ) → t ≡ min (min (s + n) (2 ^ 64 - 1)) e → e < 2 ^ 64 → slice_range b t e ≡ drop n (slice_range b s e)
taken_is b s e n t is_t small = elim (cases_lt (e - s) n) [
  | inl short ↦ none_at b t e (omega (arith, is_t, small, short)) ∙ sym (drop_all n (slice_range b s e)
      (let len : length (slice_range b s e) ≡ min (e - s) (length (drop s b)) = length-take (e - s) (drop s b) in omega (arith, len, short)))
  | inr there ↦ elim (cases_lt e (s + n)) [
    | inl past ↦ none_at b t e (omega (arith, is_t, small, past, there)) ∙ sym (drop_all n (slice_range b s e)
        (let len : length (slice_range b s e) ≡ min (e - s) (length (drop s b)) = length-take (e - s) (drop s b) in omega (arith, len, past, there)))
    | inr long ↦
        let same : t ≡ s + n = omega (arith, is_t, small, long) in
        let count : e - s ≡ n + (e - t) = omega (arith, same, long) in
        sym (ap (λ (k : ℕ). drop n (take k (drop s b))) count ∙ drop-take n (e - t) (drop s b)
        ∙ ap (λ (l : List ℕ). take (e - t) l) (drop-drop n s b ∙ ap (λ (k : ℕ). drop k b) (sym same)))
  ]
]

-- nothing is to come
pub ended : (v : Option (List ℕ)) (new : List ℕ) → new ≡ [] → IsAtEnd v → IsAtEnd (prepend_known new v)
ended None new none end = tt
ended (Some ys) new none end = ap (λ (l : List ℕ). l ++ ys) none ∙ end

pub none_waits : (b : List ℕ) (n : ℕ) → n ≡ 0 → slice_range b 0 n ≡ []
none_waits b n none = none_at b 0 n (omega (arith, none))
