-- The hellos of channels, and the first one whose id comes again.
use Rattle.std.proofs.Common.{ℕ, zero, suc, ◌≡◌, ◌+◌, ◌<◌, ◌≤◌, Bool, true, false, List, [], ◌∷◌, ◌++◌, length, take, set, get_or, find, refl, sym, ap, ◌∙◌}
use Rattle.std.proofs.Common.{inl, inr, Option, Some, None, arith, subst}
use Rattle.std.specs.Prelude.{◌||◌}
use Rattle.std.specs.List.{list_any, range_with_len}
use Rattle.std.proofs.lemmas.Bool.{cases_eq, eq-eqb, ne_eqb, cond-true, cond-false}
use Rattle.std.proofs.lemmas.List.{take_more, get_or-set_same, get_or-set_other, length-set}
use Rattle.std.proofs.lemmas.List.Folds.{list_any-append}
use Rattle.mig_answer.specs.MultiLoad.{is_same_id, comes_again, repeated_hello}

-- ---- the first number that passes

find_there : (test : ℕ → Bool) (a n j : ℕ) → a ≤ j → j < a + n → ((i : ℕ) → a ≤ i → i < j → test i ≡ false) → test j ≡ true
    → find test (range_with_len a n) ≡ Some j
find_there test a zero j low high before here = absurd (omega (arith, low, high))
find_there test a (suc n) j low high before here = elim (cases_eq a j) [
  | inl same ↦ cond-true (test a) (Some a) (find test (range_with_len (a + 1) n)) (ap test same ∙ here) ∙ ap (λ (i : ℕ). Some i) same
  | inr differ ↦ cond-false (test a) (Some a) (find test (range_with_len (a + 1) n)) (before a (omega arith) (omega (arith, low, differ)))
      ∙ find_there test (a + 1) n j (omega (arith, low, differ)) (omega (arith, high)) (λ i from to. before i (omega (arith, from)) to) here
]

find_nowhere : (test : ℕ → Bool) (a n : ℕ) → ((i : ℕ) → a ≤ i → i < a + n → test i ≡ false) → find test (range_with_len a n) ≡ None
find_nowhere test a zero none = refl
find_nowhere test a (suc n) none =
    cond-false (test a) (Some a) (find test (range_with_len (a + 1) n)) (none a (omega arith) (omega arith))
    ∙ find_nowhere test (a + 1) n (λ i from to. none i (omega (arith, from)) (omega (arith, to)))

-- a test or false is the test
pub or_false : (b : Bool) → (b || false) ≡ b
or_false true = refl
or_false false = refl

-- a test or true is true
pub or_true : (b : Bool) → (b || true) ≡ true
or_true true = refl
or_true false = refl

no_id : (ids : List (Option ℕ)) → list_any (is_same_id None) ids ≡ false
no_id [] = refl
no_id (o ∷ ids) = no_id ids

-- ---- the ids that were seen

-- the ids that were seen are those of the first j hellos, none of which comes again
pub record HaveSeen (j : ℕ) (ids : List (Option ℕ)) (seen : List Bool) : Type 0 where
  pub has_all : length seen ≡ 256
  pub are_seen : (id : ℕ) → id < 256 → get_or seen id false ≡ list_any (is_same_id (Some id)) (take j ids)
  pub none_again : (i : ℕ) → i < j → comes_again ids i ≡ false

-- one hello more
one_more : (j : ℕ) (ids : List (Option ℕ)) (o : Option ℕ) (id : ℕ) → j < length ids → get_or ids j None ≡ o
    → list_any (is_same_id (Some id)) (take (j + 1) ids) ≡ (list_any (is_same_id (Some id)) (take j ids) || (is_same_id (Some id) o || false))
one_more j ids o id below is =
    ap (list_any (is_same_id (Some id))) (take_more ids j None below ∙ ap (λ (x : Option ℕ). take j ids ++ x ∷ []) is)
    ∙ list_any-append (is_same_id (Some id)) (take j ids) (o ∷ [])

again_is : (j : ℕ) (ids : List (Option ℕ)) (o : Option ℕ) → get_or ids j None ≡ o → comes_again ids j ≡ list_any (is_same_id o) (take j ids)
again_is j ids o is = ap (λ (x : Option ℕ). list_any (is_same_id x) (take j ids)) is

until : (j : ℕ) (P : ℕ → Type 0) → ((i : ℕ) → i < j → P i) → P j → (i : ℕ) → i < j + 1 → P i
until j P before here i below = elim (cases_eq i j) [
  | inl same ↦ subst P (sym same) here
  | inr differ ↦ before i (omega (arith, below, differ))
]

-- a channel without a hello adds no id to those that were seen
pub seen_more_none : (j : ℕ) (ids : List (Option ℕ)) (seen : List Bool) → HaveSeen j ids seen → j < length ids
    → get_or ids j None ≡ None → HaveSeen (j + 1) ids seen
seen_more_none j ids seen have below is = record {
  has_all = have.has_all;
  are_seen = λ id few. have.are_seen id few ∙ sym (one_more j ids None id below is ∙ or_false (list_any (is_same_id (Some id)) (take j ids)));
  none_again = until j (λ i. comes_again ids i ≡ false) have.none_again (again_is j ids None is ∙ no_id (take j ids));
}

-- a hello whose id is new adds it to the ids that were seen
pub seen_more : (j id : ℕ) (ids : List (Option ℕ)) (seen : List Bool) → HaveSeen j ids seen → j < length ids
    → get_or ids j None ≡ Some id → id < 256 → get_or seen id false ≡ false
    → HaveSeen (j + 1) ids (set seen id true)
seen_more j id ids seen have below is few not_seen = record {
  has_all = length-set seen id true ∙ have.has_all;
  are_seen = λ m fits. elim (cases_eq m id) [
    | inl same ↦
        let found : is_same_id (Some m) (Some id) ≡ true = eq-eqb m id same in
        ap (λ (n : ℕ). get_or (set seen id true) n false) same ∙ get_or-set_same seen id true false (let all = have.has_all in omega (arith, few, all))
        ∙ sym (one_more j ids (Some id) m below is ∙ ap (λ (b : Bool). list_any (is_same_id (Some m)) (take j ids) || (b || false)) found
        ∙ or_true (list_any (is_same_id (Some m)) (take j ids)))
    | inr differ ↦
        let other : is_same_id (Some m) (Some id) ≡ false = ne_eqb m id differ in
        get_or-set_other seen id m true false differ ∙ have.are_seen m fits
        ∙ sym (one_more j ids (Some id) m below is ∙ ap (λ (b : Bool). list_any (is_same_id (Some m)) (take j ids) || (b || false)) other
        ∙ or_false (list_any (is_same_id (Some m)) (take j ids)))
  ];
  none_again = until j (λ i. comes_again ids i ≡ false) have.none_again (again_is j ids (Some id) is ∙ sym (have.are_seen id few) ∙ not_seen);
}

-- the first that comes again
pub seen_again : (j id : ℕ) (ids : List (Option ℕ)) (seen : List Bool) → HaveSeen j ids seen → j < length ids
    → get_or ids j None ≡ Some id → id < 256 → get_or seen id false ≡ true
    → Some j ≡ repeated_hello ids
seen_again j id ids seen have below is few was_seen =
    sym (find_there (comes_again ids) 0 (length ids) j (omega arith) (omega (arith, below)) (λ i from to. have.none_again i to)
    (again_is j ids (Some id) is ∙ sym (have.are_seen id few) ∙ was_seen))

-- if all channels were seen without an id twice, no hello is repeated
pub seen_none : (j : ℕ) (ids : List (Option ℕ)) (seen : List Bool) → HaveSeen j ids seen → length ids ≤ j → None ≡ repeated_hello ids
seen_none j ids seen have all = sym (find_nowhere (comes_again ids) 0 (length ids) (λ i from to. have.none_again i (omega (arith, to, all))))

-- nothing yet
pub seen_nothing : (ids : List (Option ℕ)) (seen : List Bool) → length seen ≡ 256 → ((id : ℕ) → id < 256 → get_or seen id false ≡ false) → HaveSeen 0 ids seen
seen_nothing ids seen all none = record { has_all = all; are_seen = none; none_again = λ i below. absurd (omega (arith, below)) }
