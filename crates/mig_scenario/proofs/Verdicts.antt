-- Why an input is no scenario, once each of its lines has a form.
use Rattle.std.proofs.Common.{ℕ, ◌≡◌, List, [], ◌∷◌, map, suc, refl, sym, ap, ◌∙◌, arith, Option, Some, None, Bool, true, false, cond}
use Rattle.std.specs.Prelude.{position, not, is_none, All, IsTrue}
use Rattle.std.specs.Option.{option_map}
use Rattle.std.proofs.lemmas.Bool.{not-false}
use Rattle.std.proofs.lemmas.List.Elements.{All-cons}
use Rattle.mig_mem.specs.First.{first_some}
use Rattle.mig_mem.specs.Refusal.{refusal as table_refusal}
use Rattle.mig_mem.specs.declared.fault.TableFault.{TableFault}
use Rattle.mig_scenario.specs.declared.fault.ScenarioFault.{ScenarioFault}
use Rattle.mig_scenario.specs.declared.fault.ScenarioFault.TheVariants as fault
use Rattle.mig_scenario.specs.declared.line.Line.{Line}
use Rattle.mig_scenario.specs.Line.{ScenarioLine}
use Rattle.mig_scenario.specs.Scenario.{known, forms, lines_of, table_of, first_line, late_block, unsent, is_within, refusal}
use Rattle.mig_scenario.proofs.Positions.{position-cons}

known_all : (ls : List ScenarioLine) → known (map Some ls) ≡ ls
known_all [] = refl
known_all (l ∷ ls) = ap (λ (rest : List ScenarioLine). l ∷ rest) (known_all ls)

all_known : (ls : List ScenarioLine) → position is_none (map Some ls) ≡ None
all_known [] = refl
all_known (l ∷ ls) = position-cons is_none (Some l) (map Some ls) ∙ ap (λ (o : Option ℕ). option_map suc o) (all_known ls)

-- if each line of an input has a form, these forms are its lines
pub lines_are : (text : List ℕ) (ls : List ScenarioLine) → forms text ≡ map Some ls → lines_of text ≡ ls
lines_are text ls h = ap (λ (fs : List (Option ScenarioLine)). known fs) h ∙ known_all ls

-- the first fault, by what each judgement says
abbrev first_fault : Option ℕ → Option ℕ → Option TableFault → Option ℕ → Option ℕ → Option ScenarioFault
first_fault syntax order table range unsent = first_some (
    option_map fault.Syntax syntax ∷ (option_map fault.Order order
    ∷ (option_map fault.Table table ∷ (option_map fault.Range range ∷ (option_map fault.Unsent unsent ∷ [])))))

abbrev outside : ℕ → List ScenarioLine → Option ℕ
outside size ls = first_line (λ l. not (is_within (table_of size ls) l)) ls

judged : (size : ℕ) (text : List ℕ) (ls : List ScenarioLine) → forms text ≡ map Some ls
    → refusal size text ≡ first_fault None (late_block ls) (table_refusal (table_of size ls)) (outside size ls) (unsent ls)
judged size text ls h =
    let syntax : first_line is_none (forms text) ≡ None = ap (λ (fs : List (Option ScenarioLine)). first_line is_none fs) h
    ∙ ap (λ (o : Option ℕ). option_map suc o) (all_known ls) in
    ap (λ (o : Option ℕ). first_fault o (late_block (lines_of text)) (table_refusal (table_of size (lines_of text)))
    (outside size (lines_of text)) (unsent (lines_of text))) syntax
    ∙ ap (λ (l : List ScenarioLine). first_fault None (late_block l) (table_refusal (table_of size l)) (outside size l) (unsent l)) (lines_are text ls h)

order_first : (n : ℕ) (order : Option ℕ) (table : Option TableFault) (range unsent : Option ℕ) → order ≡ Some n
    → first_fault None order table range unsent ≡ Some (fault.Order n)
order_first n order table range unsent a = rw a refl

table_first : (f : TableFault) (order : Option ℕ) (table : Option TableFault) (range unsent : Option ℕ) → order ≡ None → table ≡ Some f
    → first_fault None order table range unsent ≡ Some (fault.Table f)
table_first f order table range unsent a b = rw (a, b) refl

range_first : (n : ℕ) (order : Option ℕ) (table : Option TableFault) (range unsent : Option ℕ) → order ≡ None → table ≡ None → range ≡ Some n
    → first_fault None order table range unsent ≡ Some (fault.Range n)
range_first n order table range unsent a b c = rw (a, b, c) refl

unsent_first : (n : ℕ) (order : Option ℕ) (table : Option TableFault) (range unsent : Option ℕ) → order ≡ None → table ≡ None → range ≡ None → unsent ≡ Some n
    → first_fault None order table range unsent ≡ Some (fault.Unsent n)
unsent_first n order table range unsent a b c d = rw (a, b, c, d) refl

no_fault : (order : Option ℕ) (table : Option TableFault) (range unsent : Option ℕ) → order ≡ None → table ≡ None → range ≡ None → unsent ≡ None
    → first_fault None order table range unsent ≡ None
no_fault order table range unsent a b c d = rw (a, b, c, d) refl

-- an input of known forms is refused for the first block after its first step
pub refused_order : (size : ℕ) (text : List ℕ) (ls : List ScenarioLine) (n : ℕ) → forms text ≡ map Some ls
    → late_block ls ≡ Some n → refusal size text ≡ Some (fault.Order n)
refused_order size text ls n h a = judged size text ls h ∙ order_first n (late_block ls) (table_refusal (table_of size ls)) (outside size ls) (unsent ls) a

-- an input of known forms whose blocks come before its steps is refused for its table's fault
pub refused_table : (size : ℕ) (text : List ℕ) (ls : List ScenarioLine) (f : TableFault) → forms text ≡ map Some ls
    → late_block ls ≡ None → table_refusal (table_of size ls) ≡ Some f
    → refusal size text ≡ Some (fault.Table f)
refused_table size text ls f h a b = judged size text ls h ∙ table_first f (late_block ls) (table_refusal (table_of size ls)) (outside size ls) (unsent ls) a b

-- an input without an earlier fault is refused for the first line that isn't within its table
pub refused_range : (size : ℕ) (text : List ℕ) (ls : List ScenarioLine) (n : ℕ) → forms text ≡ map Some ls → late_block ls ≡ None
    → table_refusal (table_of size ls) ≡ None
    → first_line (λ l. not (is_within (table_of size ls) l)) ls ≡ Some n → refusal size text ≡ Some (fault.Range n)
refused_range size text ls n h a b c = judged size text ls h
    ∙ range_first n (late_block ls) (table_refusal (table_of size ls)) (outside size ls) (unsent ls) a b c

-- an input without an earlier fault is refused for the first step after the last round
pub refused_unsent : (size : ℕ) (text : List ℕ) (ls : List ScenarioLine) (n : ℕ) → forms text ≡ map Some ls → late_block ls ≡ None
    → table_refusal (table_of size ls) ≡ None
    → first_line (λ l. not (is_within (table_of size ls) l)) ls ≡ None → unsent ls ≡ Some n → refusal size text ≡ Some (fault.Unsent n)
refused_unsent size text ls n h a b c d = judged size text ls h
    ∙ unsent_first n (late_block ls) (table_refusal (table_of size ls)) (outside size ls) (unsent ls) a b c d

-- an input with known forms and none of the faults isn't refused
pub not_refused : (size : ℕ) (text : List ℕ) (ls : List ScenarioLine) → forms text ≡ map Some ls → late_block ls ≡ None
    → table_refusal (table_of size ls) ≡ None
    → first_line (λ l. not (is_within (table_of size ls) l)) ls ≡ None → unsent ls ≡ None → refusal size text ≡ None
not_refused size text ls h a b c d = judged size text ls h ∙ no_fault (late_block ls) (table_refusal (table_of size ls)) (outside size ls) (unsent ls) a b c d

-- ---- if no line passes a test

no_place : (o : Option ℕ) → option_map suc o ≡ None → o ≡ None
no_place None e = refl
no_place (Some n) e = cc

here_or_later : (b : Bool) (o : Option ℕ) → cond b (Some 0) (option_map suc o) ≡ None → (b ≡ false) × (o ≡ None)
here_or_later true o e = cc
here_or_later false o e = (refl, no_place o e)

none_outside : (p : ScenarioLine → Bool) (ls : List ScenarioLine) → position (λ l. not (p l)) ls ≡ None → All (λ l. IsTrue (p l)) ls
none_outside p [] e = λ k d lt. absurd (omega arith)
none_outside p (l ∷ ls) e =
    let both = here_or_later (not (p l)) (position (λ x. not (p x)) ls) (sym (position-cons (λ x. not (p x)) l ls) ∙ e) in
    All-cons (λ (x : ScenarioLine). IsTrue (p x)) l ls (not-false (p l) both.0) (none_outside p ls both.1)

-- if there is no first line that fails a test, all lines pass it
pub all_within : (p : ScenarioLine → Bool) (ls : List ScenarioLine) → first_line (λ l. not (p l)) ls ≡ None → All (λ l. IsTrue (p l)) ls
all_within p ls e = none_outside p ls (no_place (position (λ l. not (p l)) ls) e)

-- ---- what a call says of the list that it was given

-- if F of a list is o, F of an equal list is o
pub told : {X : Type 0} (F : List Line → X) (v items : List Line) (r o : X) → v ≡ items → r ≡ F v → r ≡ o → F items ≡ o
told F v items r o e is said = ap F (sym e) ∙ sym is ∙ said
