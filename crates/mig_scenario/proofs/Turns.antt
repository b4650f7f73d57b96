-- The judgements of some lines as a loop makes them: line by line, with what is known of the lines
-- before.
use Rattle.std.proofs.Common.{ℕ, ◌≡◌, ◌≤◌, ◌+◌, ◌-◌, List, [], ◌∷◌, length, drop, suc, refl, sym, ap, ◌∙◌, ◌⊎◌, inl, inr, arith, Option, Some, None, Bool, true}
use Rattle.std.proofs.Common.{false, cond}
use Rattle.std.specs.Prelude.{position}
use Rattle.std.specs.List.{after_last}
use Rattle.std.specs.Option.{option_map, option_and_then, option_or}
use Rattle.std.proofs.lemmas.Bool.{cases_Bool}
use Rattle.std.proofs.lemmas.Iterator.Adapters.{option_map_id}
use Rattle.mig_scenario.specs.Line.{ScenarioLine, EmptyLine, BlockLine, StepLine}
use Rattle.mig_scenario.specs.Scenario.{is_block, is_step, is_round, late_block, unsent}
use Rattle.mig_scenario.proofs.Positions.{shifted, mapped_same, mapped_twice, position-cons, NonePasses, OnePasses, none_of_none, none_more, one_here, one_more}
use Rattle.mig_scenario.proofs.Positions.{after_none, after_here, after_more, after_short}

all_of : (o : Option ℕ) → option_map (λ j. 0 + j) o ≡ o
all_of o = mapped_same (λ j. 0 + j) (λ j. j) o (λ j. omega arith) ∙ option_map_id o

-- ---- the first block after the first step

-- of the lines from a number on, if a step is known to stand before them or isn't
abbrev pub late_from : Bool → ℕ → List ScenarioLine → Option ℕ
late_from has_step i [] = None
late_from has_step i (EmptyLine ∷ ls) = late_from has_step (i + 1) ls
late_from has_step i (BlockLine pages id ∷ ls) = cond has_step (Some (i + 1)) (late_from has_step (i + 1) ls)
late_from has_step i (StepLine step ∷ ls) = late_from true (i + 1) ls

other_block : (i : ℕ) (l : ScenarioLine) (ls : List ScenarioLine) → is_block l ≡ false
    → option_map (λ j. i + 1 + suc j) (position is_block ls) ≡ option_map (λ j. i + suc j) (position is_block (l ∷ ls))
other_block i l ls e = rw (position-cons is_block l ls, e) (sym (shifted (λ j. i + suc j) (λ j. i + 1 + suc j) (position is_block ls) (λ j. omega arith)))

late_with : (i : ℕ) (ls : List ScenarioLine) → late_from true i ls ≡ option_map (λ j. i + suc j) (position is_block ls)
late_with i [] = refl
late_with i (EmptyLine ∷ ls) = late_with (i + 1) ls ∙ other_block i EmptyLine ls refl
late_with i (BlockLine pages id ∷ ls) = rw (position-cons is_block (BlockLine pages id) ls) refl
late_with i (StepLine step ∷ ls) = late_with (i + 1) ls ∙ other_block i (StepLine step) ls refl

-- if the first step stands one line further on
late_later : (l : ScenarioLine) (ls : List ScenarioLine) (o : Option ℕ)
    → option_and_then (λ i. option_map (λ j. i + suc j) (position is_block (drop i (l ∷ ls)))) (option_map suc o)
    ≡ option_map suc (option_and_then (λ i. option_map (λ j. i + suc j) (position is_block (drop i ls))) o)
late_later l ls None = refl
late_later l ls (Some i) = sym (mapped_twice suc (λ j. i + suc j) (λ j. suc i + suc j) (position is_block (drop i ls)) (λ j. omega arith))

late_other : (l : ScenarioLine) (ls : List ScenarioLine) → is_step l ≡ false → late_block (l ∷ ls) ≡ option_map suc (late_block ls)
late_other l ls e = rw (position-cons is_step l ls, e) (late_later l ls (position is_step ls))

late_shifted : (i : ℕ) (l : ScenarioLine) (ls : List ScenarioLine) → is_step l ≡ false
    → option_map (λ j. i + 1 + j) (late_block ls) ≡ option_map (λ j. i + j) (late_block (l ∷ ls))
late_shifted i l ls e = rw (late_other l ls e) (sym (shifted (λ j. i + j) (λ j. i + 1 + j) (late_block ls) (λ j. omega arith)))

late_step : (i : ℕ) (l : ScenarioLine) (ls : List ScenarioLine) → is_step l ≡ true → is_block l ≡ false
    → option_map (λ j. i + 1 + suc j) (position is_block ls) ≡ option_map (λ j. i + j) (late_block (l ∷ ls))
late_step i l ls e n =
    rw (position-cons is_step l ls, e, position-cons is_block l ls, n)
    (sym (mapped_twice (λ j. i + j) (λ j. 0 + suc j) (λ j. i + suc j) (option_map suc (position is_block ls)) (λ j. omega arith)
    ∙ shifted (λ j. i + suc j) (λ j. i + 1 + suc j) (position is_block ls) (λ j. omega arith)))

-- if none does
late_without : (i : ℕ) (ls : List ScenarioLine) → late_from false i ls ≡ option_map (λ j. i + j) (late_block ls)
late_without i [] = refl
late_without i (EmptyLine ∷ ls) = late_without (i + 1) ls ∙ late_shifted i EmptyLine ls refl
late_without i (BlockLine pages id ∷ ls) = late_without (i + 1) ls ∙ late_shifted i (BlockLine pages id) ls refl
late_without i (StepLine step ∷ ls) = late_with (i + 1) ls ∙ late_step i (StepLine step) ls refl refl

-- going line by line finds the first block after the first step
pub late_is : (ls : List ScenarioLine) → late_from false 0 ls ≡ late_block ls
late_is ls = late_without 0 ls ∙ all_of (late_block ls)

-- ---- the first step that no round follows

-- the first of them among the lines up to one, with the first of those before it
abbrev pub next_unsent : Option ℕ → ℕ → ScenarioLine → Option ℕ
next_unsent first i l = cond (is_round l) None (cond (is_step l) (option_or first (Some (i + 1))) first)

abbrev pub unsent_from : Option ℕ → ℕ → List ScenarioLine → Option ℕ
unsent_from first i [] = first
unsent_from first i (l ∷ ls) = unsent_from (next_unsent first i l) (i + 1) ls

-- what it is, by whether the lines have a round
abbrev WithoutRound : Option ℕ → ℕ → List ScenarioLine → Type 0
WithoutRound first i ls = NonePasses is_round ls × (unsent_from first i ls ≡ option_or first (option_map (λ j. i + suc j) (position is_step ls)))

abbrev WithRound : Option ℕ → ℕ → List ScenarioLine → Type 0
WithRound first i ls = OnePasses is_round ls × (unsent_from first i ls ≡ option_map (λ j. i + j) (unsent ls))

-- all the lines are left
unsent_all : (i : ℕ) (ls rest : List ScenarioLine) → after_last is_round ls ≡ rest → (k : ℕ) → length ls - length rest ≡ k
    → option_map (λ j. i + j) (unsent ls) ≡ option_map (λ j. i + (k + suc j)) (position is_step rest)
unsent_all i ls rest e k n = rw (e, n) (mapped_twice (λ j. i + j) (λ j. k + suc j) (λ j. i + (k + suc j)) (position is_step rest) (λ j. refl))

first_stays : (first : Option ℕ) (n : ℕ) (o : Option ℕ) → option_or (option_or first (Some n)) o ≡ option_or first (Some n)
first_stays None n o = refl
first_stays (Some m) n o = refl

-- one line before lines that have no round
none_next : (first : Option ℕ) (i : ℕ) (ls : List ScenarioLine) (o : Option ℕ) (b : Bool)
    → option_map (λ j. i + 1 + suc j) o ≡ option_map (λ j. i + suc j) (option_map suc o)
    → option_or (cond b (option_or first (Some (i + 1))) first) (option_map (λ j. i + 1 + suc j) o)
    ≡ option_or first (option_map (λ j. i + suc j) (cond b (Some 0) (option_map suc o)))
none_next first i ls o true e = first_stays first (i + 1) (option_map (λ j. i + 1 + suc j) o) ∙ ap (λ (n : ℕ). option_or first (Some n)) (omega arith)
none_next first i ls o false e = ap (λ (q : Option ℕ). option_or first q) e

unsent_none : (first : Option ℕ) (i : ℕ) (l : ScenarioLine) (ls : List ScenarioLine) → is_round l ≡ false
    → WithoutRound (next_unsent first i l) (i + 1) ls → WithoutRound first i (l ∷ ls)
unsent_none first i l ls e h =
    let next : next_unsent first i l ≡ cond (is_step l) (option_or first (Some (i + 1))) first = rw e refl in (
      none_more is_round l ls h.0 e,
      h.1 ∙ ap (λ (q : Option ℕ). option_or q (option_map (λ j. i + 1 + suc j) (position is_step ls))) next
          ∙ none_next first i ls (position is_step ls) (is_step l)
          (sym (shifted (λ j. i + suc j) (λ j. i + 1 + suc j) (position is_step ls) (λ j. omega arith)))
          ∙ ap (λ (q : Option ℕ). option_or first (option_map (λ j. i + suc j) q)) (sym (position-cons is_step l ls)),
    )

unsent_here : (first : Option ℕ) (i : ℕ) (l : ScenarioLine) (ls : List ScenarioLine) → is_round l ≡ true
    → WithoutRound (next_unsent first i l) (i + 1) ls → WithRound first i (l ∷ ls)
unsent_here first i l ls e h =
    let next : next_unsent first i l ≡ None = rw e refl in (
      one_here is_round l ls h.0 e,
      h.1 ∙ ap (λ (q : Option ℕ). option_or q (option_map (λ j. i + 1 + suc j) (position is_step ls))) next
          ∙ mapped_same (λ j. i + 1 + suc j) (λ j. i + (1 + suc j)) (position is_step ls) (λ j. omega arith)
          ∙ sym (unsent_all i (l ∷ ls) ls (after_here is_round l ls h.0 e) 1 (omega arith)),
    )

unsent_more : (first : Option ℕ) (i : ℕ) (l : ScenarioLine) (ls : List ScenarioLine) → WithRound (next_unsent first i l) (i + 1) ls → WithRound first i (l ∷ ls)
unsent_more first i l ls h =
    let rest = after_last is_round ls in
    let short : length rest ≤ length ls = after_short is_round ls in (
      one_more is_round l ls h.0,
      h.1 ∙ unsent_all (i + 1) ls rest refl (length ls - length rest) refl
          ∙ mapped_same (λ j. i + 1 + (length ls - length rest + suc j)) (λ j. i + (suc (length ls) - length rest + suc j))
          (position is_step rest) (λ j. omega arith)
          ∙ sym (unsent_all i (l ∷ ls) rest (after_more is_round l ls h.0) (suc (length ls) - length rest) refl),
    )

or_nothing : (first : Option ℕ) → option_or first None ≡ first
or_nothing None = refl
or_nothing (Some n) = refl

unsent_cases : (first : Option ℕ) (i : ℕ) (ls : List ScenarioLine) → WithoutRound first i ls ⊎ WithRound first i ls
unsent_cases first i [] = inl (none_of_none is_round, sym (or_nothing first))
unsent_cases first i (l ∷ ls) = elim (unsent_cases (next_unsent first i l) (i + 1) ls) [
  | inr h ↦ inr (unsent_more first i l ls h)
  | inl h ↦ elim (cases_Bool (is_round l)) [
    | inl e ↦ inr (unsent_here first i l ls e h)
    | inr e ↦ inl (unsent_none first i l ls e h)
  ]
]

-- going line by line finds the first step after the last round, or the first if there is no round
pub unsent_is : (ls : List ScenarioLine) → unsent_from None 0 ls ≡ unsent ls
unsent_is ls = elim (unsent_cases None 0 ls) [
  | inl h ↦
      h.1 ∙ mapped_same (λ j. 0 + suc j) (λ j. 0 + (0 + suc j)) (position is_step ls) (λ j. omega arith)
      ∙ sym (unsent_all 0 ls ls (after_none is_round ls h.0) 0 (omega arith)) ∙ all_of (unsent ls)
  | inr h ↦ h.1 ∙ all_of (unsent ls)
]
