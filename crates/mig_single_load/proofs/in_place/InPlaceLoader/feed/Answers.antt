use Rattle.std.proofs.Common.{false, refl, subst, sym, ap, ◌∙◌}
use Rattle.std.specs.Prelude.{Err}
use Rattle.mig_load_types.specs.declared.fault.InPlaceFault.{InPlaceFault}
use Rattle.mig_single_load.specs.LoadInPlace.{InPlace, LoadsOnto, LacksOnto}
use Rattle.mig_single_load.proofs.Feeding.{not_err}
use Rattle.mig_single_load.proofs.in_place.InPlaceLoader.feed.Goals as goal

pub invariant_of-self : goal.invariant_of-self
invariant_of-self g c = c.feed.ensures.table.1 ∙ c.self.invariant ∙ sym c.feed.ensures.table.0

pub returns-in_default-clause-ok : goal.returns-in_default-clause-ok
returns-in_default-clause-ok g c = λ given first text before.
    c.in_default.ensures.ok given first text (subst (λ (l : InPlace). LoadsOnto given first l text false) (sym c.self.view_is) before)

pub returns-clause-settled : goal.returns-clause-settled
returns-clause-settled g c = λ given first text before settled.
    absurd (c.feed.ensures.settled given first text
    (subst (λ (l : InPlace). LoadsOnto given first l text false) (sym c.self.view_is) before) settled
    (c.in-Err.is ∙ ap (λ (f : InPlaceFault). Err f) c.in-NoMemory.is))

pub returns-clause-another : goal.returns-clause-another
returns-clause-another g c = λ given first text before other.
    absurd (c.feed.ensures.another given first text
    (subst (λ (l : InPlace). LoadsOnto given first l text false) (sym c.self.view_is) before) other
    (c.in-Err.is ∙ ap (λ (f : InPlaceFault). Err f) c.in-NoMemory.is))

pub returns-clause-failed : goal.returns-clause-failed
returns-clause-failed g c = λ given first text before.
    c.feed.ensures.failed (c.in-Err.is ∙ ap (λ (f : InPlaceFault). Err f) c.in-NoMemory.is) given first text
    (subst (λ (l : InPlace). LoadsOnto given first l text false) (sym c.self.view_is) before)

pub returns-in_default-clause-lacking : goal.returns-in_default-clause-lacking
returns-in_default-clause-lacking g c = λ given first text before.
    let past = c.feed.ensures.lacking (λ e. c.feed.ensures.other.0 e c.self.invariant) given first text
    (subst (λ (l : InPlace). LacksOnto given first l text false) (sym c.self.view_is) before) in
    (past.0, refl)

pub returns-clause-lacking : goal.returns-clause-lacking
returns-clause-lacking g c = λ given first text before.
    let past = c.feed.ensures.lacking (λ e. c.feed.ensures.other.0 e c.self.invariant) given first text
    (subst (λ (l : InPlace). LacksOnto given first l text false) (sym c.self.view_is) before) in
    absurd (not_err c.feed.result _ c.in-Err.is past.1)
