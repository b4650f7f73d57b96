use Rattle.std.proofs.Common.{◌∙◌, ℕ, Option, ap, subst, sym}
use Rattle.mig_single_load.specs.LoadInPlace.{LoadInPlace, valid_place, IsValidUpToOnto}
use Rattle.mig_single_load.proofs.LoadsInPlace.{valid_told}
use Rattle.mig_single_load.proofs.in_place_state.InPlaceState.valid_up_to.Goals as goal

pub returns-clause-loads : goal.returns-clause-loads
returns-clause-loads g c = λ memory given first text ended loads.
    let s : LoadInPlace = c.args.self.now in
    subst (λ (o : Option ℕ). IsValidUpToOnto given first text o) (sym (c.valid_in.ensures ∙ ap (λ (x : LoadInPlace). valid_place x.state) c.self.view_is))
    (valid_told given first text memory s.rounds s.pause s.state loads.stands)

pub returns-clause-lacking : goal.returns-clause-lacking
returns-clause-lacking g c = λ memory given first text ended lacks.
    c.valid_in.ensures ∙ ap (λ (x : LoadInPlace). valid_place x.state) c.self.view_is ∙ ap valid_place lacks.has_failed
