use Rattle.std.proofs.Common.{◌≡◌, ◌∙◌, ◌+◌, ◌++◌, false, length, Option, Some, arith, rules, ap, subst, sym}
use Rattle.std.specs.Prelude.{IsSome}
use Rattle.std.specs.Option.{option_and_then}
use Rattle.mig_mem.specs.declared.place.Place.{Place}
use Rattle.mig_mem.specs.RamTable.{RamTable}
use Rattle.mig_mem.specs.Place.{IsPlace}
use Rattle.mig_mem.specs.PlaceSet.{PlaceSet, with_place}
use Rattle.mig_mem.specs.Image.{with_page}
use Rattle.mig_stream.specs.declared.item.StreamState.TheVariants.{Reading}
use Rattle.mig_single_load.specs.declared.in_place_state.LoadState.TheVariants as load_state
use Rattle.mig_stream.specs.Giving.{Paused}
use Rattle.mig_stream.specs.Wanted.{page_due}
use Rattle.mig_load_types.specs.declared.settings.LoadSettings.{LoadSettings}
use Rattle.mig_single_load.specs.LoadInPlace.{LoadInPlace, load_in_place, LoadsInPlace, PausesSome}
use Rattle.mig_single_load.specs.ComesNext.{page_wanted}
use Rattle.mig_single_load.proofs.LoadsInPlace.{gave_of}
use Rattle.mig_single_load.proofs.ComesNext.{TakesPage, in_place_taken, some_taken, each_some, there_is, page_of_wanted, wanted_is, wanted_there}
use Rattle.mig_single_load.proofs.in_place_state.InPlaceState.take_page.Goals as goal
use Rattle.mig_single_load.proofs.Sections.{of_some}

pub take_page-requires-clause-due : goal.take_page-requires-clause-due
take_page-requires-clause-due g c =
    let is : c.self.inside.pause ≡ Some c.in-Some.pause = search rules in
    let some : c.args.self.now.pause ≡ Some c.in-Some.pause = ap (λ (x : LoadInPlace). x.pause) (sym c.self.view_is) ∙ is in
    subst (λ (o : Option Paused). IsSome (option_and_then page_due o)) some c.requires.wanted

pub take_page-requires-clause-len : goal.take_page-requires-clause-len
take_page-requires-clause-len g c =
    let is : c.self.inside.pause ≡ Some c.in-Some.pause = search rules in
    let was = of_some (λ (p : Paused). (given : LoadSettings)
    × PausesSome given c.self.inside.table p c.self.inside.rounds c.self.inside.fed) c.self.inside.pause c.in-Some.pause is c.self.invariant.pauses in
    c.requires.len ∙ ap (λ (x : LoadInPlace). x.table.page_size) (sym c.self.view_is)
    ∙ sym (gave_of was.0 c.self.inside.table was.1.text was.1.so_far c.in-Some.pause was.1.pauses)

pub unreachable-requires-in_default-wanted : goal.unreachable-requires-in_default-wanted
unreachable-requires-in_default-wanted g c =
    let is : c.self.inside.pause ≡ Some c.in-Some.pause = search rules in
    let some : c.args.self.now.pause ≡ Some c.in-Some.pause = ap (λ (x : LoadInPlace). x.pause) (sym c.self.view_is) ∙ is in
    let due = there_is (page_due c.in-Some.pause) (subst (λ (o : Option Paused). IsSome (option_and_then page_due o)) some c.requires.wanted) in
    c.in_default-wanted.not-Page due.0 (wanted_is c.in-Some.pause c.wanted.result due.0 c.wanted.ensures due.1)

pub mark-requires : goal.mark-requires
mark-requires g c =
    let is : c.self.inside.pause ≡ Some c.in-Some.pause = search rules in
    let was = of_some (λ (p : Paused). (given : LoadSettings)
    × PausesSome given c.self.inside.table p c.self.inside.rounds c.self.inside.fed) c.self.inside.pause c.in-Some.pause is c.self.invariant.pauses in
    let due : page_due c.in-Some.pause ≡ Some c.in-Page.place = page_of_wanted c.in-Some.pause c.wanted.result c.in-Page.place c.wanted.ensures c.in-Page.is in
    subst (λ (t : RamTable). IsPlace t c.in-Page.place) (sym c.self.invariant.named_table)
    (of_some (λ (place : Place). IsPlace c.self.inside.table place) (page_due c.in-Some.pause) c.in-Page.place due
    (wanted_there was.0 c.self.inside.table c.in-Some.pause c.self.inside.rounds c.self.inside.fed was.1))

pub invariant_of-self : goal.invariant_of-self
invariant_of-self g c =
    let content = c.args.content.now in
    let p : Paused = c.in-Some.pause in
    let q : Paused = c.take_page.new.self in
    let is : c.self.inside.pause ≡ Some p = search rules in
    let was = of_some (λ (p : Paused). (given : LoadSettings)
    × PausesSome given c.self.inside.table p c.self.inside.rounds c.self.inside.fed) c.self.inside.pause p is c.self.invariant.pauses in
    let some : c.args.self.now.pause ≡ Some p = ap (λ (x : LoadInPlace). x.pause) (sym c.self.view_is) ∙ is in
    let due = there_is (page_due p) (subst (λ (o : Option Paused). IsSome (option_and_then page_due o)) some c.requires.wanted) in
    let taken : TakesPage p q due.0 content = of_some (λ (place : Place). TakesPage p q place content) (page_due p) due.0 due.1 c.take_page.ensures in
    let len : length content ≡ c.self.inside.table.page_size = c.requires.len ∙ ap (λ (x : LoadInPlace). x.table.page_size) (sym c.self.view_is) in
    record {
      is_table = c.self.invariant.is_table;
      named_table = ap (λ (s : PlaceSet). s.table) c.mark.ensures.set ∙ c.self.invariant.named_table;
      pauses = (was.0, some_taken was.0 c.self.inside.table content p q due.0 c.self.inside.rounds c.self.inside.fed due.1 len taken was.1);
    }

pub returns-clause-loads : goal.returns-clause-loads
returns-clause-loads g c =
    let content = c.args.content.now in
    let s : LoadInPlace = load_in_place c.self.inside.pause c.self.inside.state c.self.inside.table c.self.inside.named
    c.self.inside.rounds c.self.inside.fed c.self.inside.ended in
    let p : Paused = c.in-Some.pause in
    let q : Paused = c.take_page.new.self in
    let is : c.self.inside.pause ≡ Some p = search rules in
    each_some (page_wanted c.args.self.now) _ (λ place wants memory given first text loads.
    let some : c.args.self.now.pause ≡ Some p = ap (λ (x : LoadInPlace). x.pause) (sym c.self.view_is) ∙ is in
    let due : page_due p ≡ Some place = ap (λ (o : Option Paused). option_and_then page_due o) (sym some) ∙ wants in
    let taken : TakesPage p q place content = of_some (λ (place : Place). TakesPage p q place content) (page_due p) place due c.take_page.ensures in
    let mine : LoadsInPlace memory given first s text false =
    subst (λ (x : LoadInPlace). LoadsInPlace memory given first x text false) (sym c.self.view_is) loads in
    let len : length content ≡ s.table.page_size = c.requires.len ∙ ap (λ (x : LoadInPlace). x.table.page_size) (sym c.self.view_is) in
    let asked : page_due p ≡ Some c.in-Page.place = page_of_wanted p c.wanted.result c.in-Page.place c.wanted.ensures c.in-Page.is in
    let same : c.in-Page.place ≡ place = let both : Some c.in-Page.place ≡ Some place = sym asked ∙ due in cc in
    let marks : c.mark.new.self ≡ with_place c.self.inside.named place = c.mark.ensures.set ∙ ap (λ (x : Place). with_place c.self.inside.named x) same in
    subst (λ (n : PlaceSet). LoadsInPlace (with_page memory place content) given first
    (load_in_place (Some q) (load_state.Stream Reading c.valid_up_to.result) s.table n s.rounds (s.fed + length content) s.ended)
    (text ++ content) false) (sym marks)
    (in_place_taken memory given first s text content p q place c.valid_up_to.result is due len
    (omega (arith, c.requires.room, ap (λ (x : LoadInPlace). x.fed) c.self.view_is)) taken c.valid_up_to.ensures mine))
