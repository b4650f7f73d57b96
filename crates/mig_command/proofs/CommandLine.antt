-- What the command line is read as, if its words ask for a check.
use Rattle.std.proofs.Common.{ℕ, ◌≡◌, ◌<◌, ◌≤◌, ◌^◌, ◌∙◌, ◌||◌, ◌==◌, List, [], ◌∷◌, length, refl, sym, ap, ap₂, inl, inr, arith, Option, Some, None, Bool}
use Rattle.std.proofs.Common.{true, false, codes, subst}
use Rattle.std.specs.Prelude.{String, Result, Ok, Err}
use Rattle.std.specs.Borrow.{Bor}
use Rattle.std.specs.Option.{option_map, unwrap_or}
use Rattle.std.specs.Str.Parse.{IsNumeral, ParsesUnsigned, digits_value, without_leading_plus}
use Rattle.std.proofs.lemmas.Bool.{eqb-true}
use Rattle.clap.specs.Words.{App, Row, Rule, Text, AddsArg, AddsSubcommand, HasMatchesOf, ReadsOne, one_of, one_text, rows_of, found_of, is_simple}
use Rattle.clap.specs.Words.{subcommand_of, subcommand_rows_of, subcommand_name_of, takes, with_rule, with_subcommand}
use Rattle.clap.specs.declared.builder.arg.Arg.{Arg}
use Rattle.clap.specs.declared.builder.command.Command.{Command}
use Rattle.clap.specs.declared.parser.matches.Found.{Found}
use Rattle.clap.specs.declared.parser.matches.ArgMatches.{ArgMatches}
use Rattle.clap.specs.declared.parser.matches.ArgMatches.TheViews.{out-ArgMatches}
use Rattle.clap.proofs.OnLiterals.{clap_on_literals}
use Rattle.clap.proofs.WalkLemmas.{one_text-rows}
use Rattle.mig_packet.specs.PageSize.{page_limit}
use Rattle.mig_scenario.specs.declared.layout.Layout.{Layout}
use Rattle.mig_scenario.specs.declared.layout.PageSize.{PageSize}
use Rattle.mig_scenario.specs.declared.layout.PageSize.TheVariants.{Small, Large}
use Rattle.mig_scenario.specs.Layout.{bytes_in}
use Rattle.mig_command.specs.Words.{IsArg, IsCommand, Gives, GiveLayout, AskCheck, AskPlainCheck, AskCommand, plain_layout, tool_app, texts_of}

-- ---- how a command is declared

-- one argument more
pub with_arg : (app : App) (rule : Rule) (old : Command) (arg : Arg) (new : Command) → IsCommand app old → IsArg rule arg → AddsArg old arg new
    → IsCommand (with_rule app rule) new
with_arg app rule old arg new is a adds = record {
  has_app = adds.shape a.is_local ∙ ap₂ with_rule is.has_app a.has_rule;
  has_no_globals = adds.globals ∙ ap₂ (λ (x y : Bool). x || y) is.has_no_globals a.is_local;
}

-- one subcommand more
pub with_command : (app sub_app : App) (old sub new : Command) → IsCommand app old → IsCommand sub_app sub → AddsSubcommand old sub new
    → IsCommand (with_subcommand app sub_app.top) new
with_command app sub_app old sub new is a adds = record {
  has_app = adds.shape a.has_no_globals ∙ ap₂ with_subcommand is.has_app (ap (λ (x : App). x.top) a.has_app);
  has_no_globals = adds.globals ∙ ap₂ (λ (x y : Bool). x || y) is.has_no_globals a.has_no_globals;
}

-- ---- `check`

abbrev check_alone : List Text
check_alone = codes "check" ∷ []

is_simple_tool : is_simple tool_app ≡ true
unfolding clap_on_literals
is_simple_tool = refl

-- `check` alone is met, and none of its options is used
check_is_met : subcommand_of tool_app check_alone ≡ Some (codes "check", [])
unfolding clap_on_literals
check_is_met = refl

check_is_taken : takes tool_app check_alone ≡ true
unfolding clap_on_literals
check_is_taken = refl

nothing_is_met : subcommand_of tool_app [] ≡ None
unfolding clap_on_literals
nothing_is_met = refl

not_met : (command : Text) (rows : List Row) → subcommand_of tool_app [] ≡ Some (command, rows) → ⊥
not_met command rows is = let bad : None ≡ Some (command, rows) = sym nothing_is_met ∙ is in absurd cc

plain_options : GiveLayout [] plain_layout
plain_options = record { gives_page = refl; gives_channels = refl; gives_batch = refl; few_channels = omega arith; has_room = (omega arith, omega arith) }

-- no words, and `check` alone, ask for a check of a single stream
pub plain_is_check : (words : List Text) → AskPlainCheck words → AskCheck words plain_layout
plain_is_check words (inl none) = inl (none, refl)
plain_is_check words (inr alone) = rw alone (inr ([], check_is_taken, check_is_met, plain_options))

-- so do, as an example, words with each option
abbrev all_options : List Text
all_options = codes "check" ∷ codes "--channels=2" ∷ codes "--batch" ∷ codes "+16" ∷ codes "--page" ∷ codes "8192" ∷ []

abbrev rows_in : Option (Text × List Row) → List Row
rows_in (Some met) = met.1
rows_in None = []

-- what words ask for that are some, and ask for a check
abbrev pub AskOptions : List Text → Layout → Type 0
AskOptions words layout = (rows : List Row) × (takes tool_app words ≡ true)
    × (subcommand_of tool_app words ≡ Some (codes "check", rows)) × GiveLayout rows layout

-- if there are arguments, and they ask for a check, its layout is that of their options
pub are_options : {A : Type 0} (ws : List (String A)) (layout : Layout) → (length ws == 0) ≡ false → AskCheck (texts_of ws) layout
    → AskOptions (texts_of ws) layout
are_options [] layout some ask = absurd cc
are_options (w ∷ ws) layout some (inl none) = let bad = none.0 in absurd cc
are_options (w ∷ ws) layout some (inr is) = is

-- a check that is asked for without arguments is of the plain layout
pub no_options : {A : Type 0} (ws : List (String A)) (layout : Layout) → (length ws == 0) ≡ true → AskCheck (texts_of ws) layout → plain_layout ≡ layout
no_options [] layout none (inl ask) = sym ask.1
no_options [] layout none (inr ask) = absurd (not_met (codes "check") ask.0 ask.2)
no_options (w ∷ ws) layout none ask = absurd (omega (arith, eqb-true (length (w ∷ ws)) 0 none))

-- words that name a command are some
pub no_command : {A : Type 0} (ws : List (String A)) (command : Text) (rows : List Row) → (length ws == 0) ≡ true → AskCommand (texts_of ws) command rows → ⊥
no_command [] command rows none ask = not_met command rows ask.is_met
no_command (w ∷ ws) command rows none ask = absurd (omega (arith, eqb-true (length (w ∷ ws)) 0 none))

-- they are taken
pub passes_check : (app : App) (ws : List Text) → app ≡ tool_app → takes tool_app ws ≡ true → takes app ws ≡ true
passes_check app ws same taken = ap (λ (x : App). takes x ws) same ∙ taken

-- and what they ask for is met
pub meets : (app : App) (ws : List Text) (command : Text) (rows : List Row) (m : ArgMatches) → app ≡ tool_app
    → subcommand_of tool_app ws ≡ Some (command, rows) → HasMatchesOf app ws m
    → subcommand_rows_of m ≡ Some (command, rows)
meets app ws command rows m same is has = (has (ap is_simple same ∙ is_simple_tool)).1 ∙ ap (λ (x : App). subcommand_of x ws) same ∙ is

mapped_twice : {X Y Z : Type 0} (f : X → Y) (g : Y → Z) (o : Option X) → option_map g (option_map f o) ≡ option_map (λ x. g (f x)) o
mapped_twice f g None = refl
mapped_twice f g (Some x) = refl

name_of_rows : (m : ArgMatches) → option_map (λ p. p.0) (subcommand_rows_of m) ≡ subcommand_name_of m
name_of_rows m = mapped_twice _ _ (out-ArgMatches m).subcommand

-- values are equal if they are as `Some`
pub some_same : {X : Type 0} (x y : X) → Some x ≡ Some y → x ≡ y
some_same x y e = cc

-- the command that was met, by its name, and what of it was used
pub met : (m : ArgMatches) (r : Option (Bor Text
    × Bor ArgMatches)) (name : Bor Text) (sub : Bor ArgMatches) (command : Text) (found : List Row) → subcommand_rows_of m ≡ Some (command, found)
    → option_map (λ p. p.0.now) r ≡ subcommand_name_of m → option_map (λ p. rows_of (found_of p.1.now)) r ≡ option_map (λ p. p.1) (subcommand_rows_of m)
    → r ≡ Some (name, sub) → (name.now ≡ command) × (rows_of (found_of sub.now) ≡ found)
met m r name sub command found is names rows some = (
  some_same name.now command (sym (ap (λ (o : Option (Bor Text × Bor ArgMatches)). option_map (λ p. p.0.now) o) some) ∙ names
      ∙ sym (name_of_rows m) ∙ ap (λ (o : Option (Text × List Row)). option_map (λ p. p.0) o) is),
  some_same (rows_of (found_of sub.now)) found
      (sym (ap (λ (o : Option (Bor Text × Bor ArgMatches)). option_map (λ p. rows_of (found_of p.1.now)) o) some) ∙ rows
      ∙ ap (λ (o : Option (Text × List Row)). option_map (λ p. p.1) o) is),
)

-- there is one
pub none_met : (m : ArgMatches) (r : Option (Bor Text × Bor ArgMatches)) (command : Text) (found : List Row)
    → subcommand_rows_of m ≡ Some (command, found) → option_map (λ p. p.0.now) r ≡ subcommand_name_of m → r ≡ None → ⊥
none_met m r command found is names none =
    let bad : None ≡ Some command = sym (ap (λ (o : Option (Bor Text × Bor ArgMatches)). option_map (λ p. p.0.now) o) none)
    ∙ names ∙ sym (name_of_rows m) ∙ ap (λ (o : Option (Text × List Row)). option_map (λ p. p.0) o) is in
    absurd cc

-- ---- results

-- values are equal if they are as `Ok`
pub ok_same : {T E : Type 0} (x y : T) → (let r : Result T E = Ok x in r) ≡ Ok y → x ≡ y
ok_same x y is = cc

-- no `Err` is an `Ok`
pub err_ok : {T E : Type 0} (e : E) (y : T) → (let r : Result T E = Err e in r) ≡ Ok y → ⊥
err_ok e y is = absurd cc

-- ---- an option's number

-- what isn't used has no value, and what is used has the one of its row
text_of_row : (f : Found) (id : Text) → one_text f id ≡ one_of id (rows_of f)
text_of_row f id = one_text-rows f id

-- without a value there is none
pub gives_none : (f : Found) (id : Text) (without number : ℕ) → Gives (rows_of f) id without number → one_text f id ≡ None → number ≡ without
gives_none f id without number gives none = rw (sym (text_of_row f id) ∙ none) at gives

abbrev Says : Text → ℕ → Type 0
Says text number = IsNumeral 10 (without_leading_plus text) × (number ≡ digits_value 10 (without_leading_plus text))

-- the bytes of an option that is used are a numeral, and its value is the number that they give
pub gives_text : (f : Found) (id t : Text) (without number : ℕ) → Gives (rows_of f) id without number → one_text f id ≡ Some t → Says t number
gives_text f id t without number gives some = rw (sym (text_of_row f id) ∙ some) at gives

-- what `get_one` reads of it, at an unsigned type
pub number_read : {E : Type 0} (k : ℕ) (f : Found) (id : Text) (without number : ℕ) (r : Option ℕ) (reads : List ℕ → Result ℕ E → Type 0)
    → ((t : List ℕ) (v : Result ℕ E) → reads t v → ParsesUnsigned k 10 t v) → number < 2 ^ k → Gives (rows_of f) id without number
    → (one_text f id ≡ None → r ≡ None) → ((t : List ℕ) → one_text f id ≡ Some t → ReadsOne reads t r) → unwrap_or r without ≡ number
number_read {E} k f id without number r reads parses small gives none value = go (one_text f id) refl
  where
    read : (t : List ℕ) (v : Option ℕ) → Says t number → ReadsOne reads t v → v ≡ Some number
    read t (Some n) says has = ap (λ (m : ℕ). let some : Option ℕ = Some m in some) ((parses t (Ok n) has).1 ∙ sym says.1)
    read t None says has = absurd ((parses t (Err has.0) has.1) (says.0, subst (λ (m : ℕ). m < 2 ^ k) says.1 small))

    go : (o : Option Text) → one_text f id ≡ o → unwrap_or r without ≡ number
    go None is = ap (λ (v : Option ℕ). unwrap_or v without) (none is) ∙ sym (gives_none f id without number gives is)
    go (Some t) is = ap (λ (v : Option ℕ). unwrap_or v without) (read t r (gives_text f id t without number gives is) (value t is))

-- ---- sizes of pages

-- a page of either size has at most 8192 bytes
pub page_bytes : (size : PageSize) → bytes_in size ≤ 8192
page_bytes Small = omega arith
page_bytes Large = omega arith

-- a page size of 4096 bytes is `Small`
pub is_small : (size : PageSize) (n : ℕ) → n ≡ bytes_in size → n ≡ 4096 → Small ≡ size
is_small Small n is n_is = refl
is_small Large n is n_is = absurd (omega (arith, is, n_is))

-- a page size of 8192 bytes is `Large`
pub is_large : (size : PageSize) (n : ℕ) → n ≡ bytes_in size → n ≡ 8192 → Large ≡ size
is_large Small n is n_is = absurd (omega (arith, is, n_is))
is_large Large n is n_is = refl

-- each page size is 4096 or 8192 bytes
pub is_neither : (size : PageSize) (n : ℕ) → n ≡ bytes_in size → (n ≡ 4096 → ⊥) → (n ≡ 8192 → ⊥) → ⊥
is_neither Small n is small large = small is
is_neither Large n is small large = large is

-- a packet has room for at most 128 pages, whichever their size
pub room_bound : (size : PageSize) → page_limit (bytes_in size) ≤ 128
room_bound Small = omega arith
room_bound Large = omega arith
