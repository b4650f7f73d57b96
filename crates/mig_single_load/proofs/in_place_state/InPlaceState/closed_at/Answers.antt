use Rattle.std.proofs.Common.{◌∙◌, ℕ, Option, ap, subst, sym}
use Rattle.mig_single_load.specs.LoadInPlace.{LoadInPlace, closed_place, HasClosedAtOnto}
use Rattle.mig_single_load.proofs.LoadsInPlace.{closed_told}
use Rattle.mig_single_load.proofs.in_place_state.InPlaceState.closed_at.Goals as goal

pub returns-clause-loads : goal.returns-clause-loads
returns-clause-loads g c = λ memory given first text ended loads.
    let s : LoadInPlace = c.args.self.now in
    subst (λ (o : Option ℕ). HasClosedAtOnto given first text o) (sym (c.closed_in.ensures ∙ ap (λ (x : LoadInPlace). closed_place x.state) c.self.view_is))
    (closed_told given first text memory s.rounds s.pause s.state loads.stands)

pub returns-clause-lacking : goal.returns-clause-lacking
returns-clause-lacking g c = λ memory given first text ended lacks.
    c.closed_in.ensures ∙ ap (λ (x : LoadInPlace). closed_place x.state) c.self.view_is ∙ ap closed_place lacks.has_failed
