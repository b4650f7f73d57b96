use Rattle.std.proofs.Common.{◌∙◌, Some, None, ap, length, not, subst, sym}
use Rattle.std.specs.Prelude.{◌⊎◌}
use Rattle.mig_mem.specs.Place.{has_place}
use Rattle.mig_mem.specs.PlaceSet.{PlaceSet, places_where}
use Rattle.mig_single_load.specs.Loader.{Loader, loader, Loads, HasAllSections, Waits, TellsMissing}
use Rattle.mig_single_load.proofs.Sections.{all_there, counts_missing, none_missing}
use Rattle.mig_single_load.proofs.loader.SingleLoader.missing.Goals as goal

pub returns-in-Some : goal.returns-in-Some
returns-in-Some g c = λ given text ended loads.
    let r = c.self.inside.reader in
    let o = c.self.inside.target in
    let t = c.in-Some.target in
    let here = subst (λ (l : Loader). Loads given l text ended) (sym c.self.view_is) loads in
    let all = all_there given r o t text ended c.in-Some.is here in
    subst (λ (l : Loader). TellsMissing given l text (Some c.lacking.result)) (ap (λ x. loader r x) (sym c.in-Some.is) ∙ c.self.view_is)
    (counts_missing given r t text c.lacking.result (subst (λ x. HasAllSections given (loader r x) text) c.in-Some.is all)
    (c.lacking.ensures.value ∙ ap (λ (s : PlaceSet). length (places_where s.table (λ p. not (has_place s.marked p)))) c.named.ensures))

pub returns-in-None : goal.returns-in-None
returns-in-None g c = λ given text ended loads.
    let r = c.self.inside.reader in
    let here = subst (λ (l : Loader). Loads given l text ended) (sym c.self.view_is) loads in
    subst (λ (l : Loader). TellsMissing given l text None) (ap (λ x. loader r x) (sym c.in-None.is) ∙ c.self.view_is)
    (none_missing given r text (subst (λ (l : Loader). HasAllSections given l text ⊎ Waits given l text) (ap (λ x. loader r x) c.in-None.is) here.has_sections))
