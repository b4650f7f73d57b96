-- The lines of an input that are still to be read.
use Rattle.std.proofs.Common.{ℕ, ◌≡◌, ◌<◌, ◌+◌, List, [], ◌∷◌, ◌++◌, length, map, cond, Option, Some, None, true, suc, refl, sym, ap, ◌∙◌, arith}
use Rattle.std.specs.Prelude.{MatchOption, is_none, position, nat_lt}
use Rattle.std.specs.Borrow.{Bor}
use Rattle.std.specs.List.{position_or_len}
use Rattle.std.specs.Option.{option_map}
use Rattle.std.proofs.lemmas.Bool.{cond-true, lt-ltb}
use Rattle.mig_scenario.specs.declared.fault.ScenarioFault.TheVariants as fault
use Rattle.mig_scenario.specs.Line.{ScenarioLine, lines, line_of}
use Rattle.mig_scenario.specs.Scenario.{forms, first_line}

-- what is left of an input, if a line follows
abbrev pub left_forms : Option (Bor (List ℕ)) → List (Option ScenarioLine)
left_forms None = []
left_forms (Some text) = forms text.now

abbrev pub left_length : Option (Bor (List ℕ)) → ℕ
left_length None = 0
left_length (Some text) = length text.now + 1

-- a cut at a line's end, by what the lines say
pub forms_cut : (text line : List ℕ) (rest : Option (Bor (List ℕ)))
    → MatchOption rest (lines text ≡ line ∷ []) (λ r. (lines text ≡ line ∷ lines r.now) × (length r.now < length text))
    → (forms text ≡ line_of line ∷ left_forms rest) × (left_length rest < length text + 1)
forms_cut text line None h = (ap (map line_of) h, omega arith)
forms_cut text line (Some r) h = (ap (map line_of) h.0, omega arith)

unread_at : (known : List ScenarioLine) (more : List (Option ScenarioLine)) → position_or_len is_none (map Some known ++ None ∷ more) ≡ length known
unread_at [] more = refl
unread_at (l ∷ known) more = omega (arith, unread_at known more)

unread_within : (known : List ScenarioLine) (more : List (Option ScenarioLine)) → length known < length (map Some known ++ None ∷ more)
unread_within [] more = omega arith
unread_within (l ∷ known) more = omega (arith, unread_within known more)

-- the first line with no form stands after those read
first_unread : (known : List ScenarioLine) (more : List (Option ScenarioLine))
    → first_line is_none (map Some known ++ None ∷ more) ≡ Some (length known + 1)
first_unread known more =
    let all : List (Option ScenarioLine) = map Some known ++ None ∷ more in
    let within : nat_lt (length known) (length all) ≡ true = lt-ltb (length known) (length all) (unread_within known more) in
    let at : position is_none all ≡ cond (nat_lt (length known) (length all)) (Some (length known)) None =
    ap (λ (n : ℕ). cond (nat_lt n (length all)) (Some n) None) (unread_at known more) in
    let is : position is_none all ≡ Some (length known) =
    at ∙ cond-true (nat_lt (length known) (length all)) (Some (length known)) None within in
    ap (option_map suc) is ∙ ap Some (omega arith)

-- the fault that is answered
pub syntax_of : (text : List ℕ) (known : List ScenarioLine) (more : List (Option ScenarioLine)) (n : ℕ)
    → forms text ≡ map Some known ++ None ∷ more → n ≡ length known
    → Some (fault.Syntax (n + 1)) ≡ option_map fault.Syntax (first_line is_none (forms text))
syntax_of text known more n h len =
    let first : first_line is_none (forms text) ≡ Some (length known + 1) = ap (first_line is_none) h ∙ first_unread known more in
    ap (λ (m : ℕ). Some (fault.Syntax (m + 1))) len ∙ sym (ap (option_map fault.Syntax) first)
