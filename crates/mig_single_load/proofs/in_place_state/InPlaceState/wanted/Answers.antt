use Rattle.std.proofs.Common.{◌≡◌, ◌∙◌, Option, Some, None, ap, subst, sym}
use Rattle.std.specs.Prelude.{IfSome}
use Rattle.std.specs.Option.{option_and_then}
use Rattle.mig_mem.specs.Place.{IsPlace}
use Rattle.mig_stream.specs.Giving.{Paused}
use Rattle.mig_stream.specs.Wanted.{page_due}
use Rattle.mig_single_load.specs.LoadInPlace.{LoadInPlace, load_in_place, StandsOnto, PausesOnto}
use Rattle.mig_single_load.specs.ComesNext.{page_wanted}
use Rattle.mig_single_load.proofs.ComesNext.{asks, next_is, next_none, place_wanted}
use Rattle.mig_single_load.proofs.in_place_state.InPlaceState.wanted.Goals as goal
use Rattle.mig_single_load.proofs.Sections.{of_some}

pub returns-in-Some-clause-page : goal.returns-in-Some-clause-page
returns-in-Some-clause-page g c =
    let some : c.args.self.now.pause ≡ Some c.in-Some.pause = ap (λ (x : LoadInPlace). x.pause) (sym c.self.view_is) ∙ c.in-Some.is in
    asks c.in-Some.pause c.wanted.result c.wanted.ensures ∙ ap (λ (o : Option Paused). option_and_then page_due o) (sym some)

pub returns-in-None-clause-page : goal.returns-in-None-clause-page
returns-in-None-clause-page g c =
    let none : c.args.self.now.pause ≡ None = ap (λ (x : LoadInPlace). x.pause) (sym c.self.view_is) ∙ c.in-None.is in
    ap (λ (o : Option Paused). option_and_then page_due o) (sym none)

pub returns-in-Some-clause-place : goal.returns-in-Some-clause-place
returns-in-Some-clause-place g c =
    let s : LoadInPlace = load_in_place c.self.inside.pause c.self.inside.state c.self.inside.table c.self.inside.named
    c.self.inside.rounds c.self.inside.fed c.self.inside.ended in
    subst (λ (x : LoadInPlace). IfSome (page_wanted x) (λ place. IsPlace x.table place)) c.self.view_is (place_wanted s c.self.invariant)

pub returns-in-None-clause-place : goal.returns-in-None-clause-place
returns-in-None-clause-place g c =
    let s : LoadInPlace = load_in_place c.self.inside.pause c.self.inside.state c.self.inside.table c.self.inside.named
    c.self.inside.rounds c.self.inside.fed c.self.inside.ended in
    subst (λ (x : LoadInPlace). IfSome (page_wanted x) (λ place. IsPlace x.table place)) c.self.view_is (place_wanted s c.self.invariant)

pub returns-in-Some-clause-loads : goal.returns-in-Some-clause-loads
returns-in-Some-clause-loads g c = λ memory given first text ended loads.
    let s : LoadInPlace = c.args.self.now in
    let some : s.pause ≡ Some c.in-Some.pause = ap (λ (x : LoadInPlace). x.pause) (sym c.self.view_is) ∙ c.in-Some.is in
    next_is given first text c.in-Some.pause memory s.rounds c.wanted.result c.wanted.ensures
    (of_some (λ (p : Paused). PausesOnto given first text p memory s.rounds) s.pause c.in-Some.pause some loads.stands.pauses)

pub returns-in-None-clause-loads : goal.returns-in-None-clause-loads
returns-in-None-clause-loads g c = λ memory given first text ended loads.
    let s : LoadInPlace = c.args.self.now in
    let none : s.pause ≡ None = ap (λ (x : LoadInPlace). x.pause) (sym c.self.view_is) ∙ c.in-None.is in
    next_none given first text memory s.rounds s.state loads.is_table
    (subst (λ (o : Option Paused). StandsOnto given first text memory s.rounds o s.state) none loads.stands)

pub returns-in-Some-clause-lacking : goal.returns-in-Some-clause-lacking
returns-in-Some-clause-lacking g c = λ memory given first text ended lacks.
    let some : c.args.self.now.pause ≡ Some c.in-Some.pause = ap (λ (x : LoadInPlace). x.pause) (sym c.self.view_is) ∙ c.in-Some.is in
    absurd (let bad : Some c.in-Some.pause ≡ None = sym some ∙ lacks.has_no_pause in cc)
