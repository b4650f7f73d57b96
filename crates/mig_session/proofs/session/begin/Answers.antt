use Rattle.std.proofs.Common.{◌≡◌, ◌≤◌, ◌∙◌, arith, Option, Some, None, sym, ap, subst}
use Rattle.std.specs.Option.{option_copied, option_map}
use Rattle.mig_mem.specs.RamTable.{RamTable}
use Rattle.mig_stream.specs.Reader.{HasTable}
use Rattle.mig_load_types.specs.Settings.{main_of}
use Rattle.mig_load_types.specs.declared.settings.LoadSettings.{LoadSettings}
use Rattle.mig_session.specs.Loading.{RoundLoad, TakesOrWaits}
use Rattle.mig_session.specs.Session.{held_of, rounds_loaded}
use Rattle.mig_session.proofs.Advances.{table_size, load_begins, none_there}
use Rattle.mig_session.proofs.session.begin.Goals as goal

pub new-requires-clause-page_size : goal.new-requires-clause-page_size
new-requires-clause-page_size g c =
    let f = c.requires.0 in
    let has : HasTable (main_of f.given) f.texts.main.bytes (Some c.in-Some.table.now) =
    subst (λ (o : Option RamTable). HasTable (main_of f.given) f.texts.main.bytes o) (ap (λ (o : _). option_copied o) c.in-Some.is)
    (c.table.ensures f.given f.uuid f.texts c.requires.2) in
    table_size f.given f.texts.main.bytes c.in-Some.table.now c.requires.1.is_of_session.is_page_size has
    ∙ ap (λ (s : LoadSettings). s.page_size) (sym c.requires.1.has_settings)

pub returns-in_ok-new-in-Some-clause-ok : goal.returns-in_ok-new-in-Some-clause-ok
returns-in_ok-new-in-Some-clause-ok g c = λ f w made holds waits.
    let has : HasTable (main_of f.given) f.texts.main.bytes (Some c.in-Some.table.now) =
    subst (λ (o : Option RamTable). HasTable (main_of f.given) f.texts.main.bytes o) (ap (λ (o : _). option_copied o) c.in-Some.is)
    (c.table.ensures f.given f.uuid f.texts holds) in
    let none : c.args.load.now ≡ None = none_there c.args.load.now (sym c.is_some.ensures ∙ c.if-is_some.false) in (
      load_begins c.args.settings c.args.uuid.now c.args.channels f w c.in_ok-new-in-Some.field-0 c.in-Some.table.now made
          c.in_ok-new-in-Some.ensures.took c.in_ok-new-in-Some.ensures.table has
          (subst (λ (o : Option RoundLoad). TakesOrWaits f w o) none waits),
      λ e. absurd cc,
    )

pub returns-in_ok-new-in-Some-clause-rounds : goal.returns-in_ok-new-in-Some-clause-rounds
returns-in_ok-new-in-Some-clause-rounds g c =
    let none : c.args.load.now ≡ None = none_there c.args.load.now (sym c.is_some.ensures ∙ c.if-is_some.false) in
    subst (λ (o : Option RoundLoad). rounds_loaded (option_map held_of o) ≤ c.in_ok-new-in-Some.field-0.load.rounds) (sym none) (omega arith)
