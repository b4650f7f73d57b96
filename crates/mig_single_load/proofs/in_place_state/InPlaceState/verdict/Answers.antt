use Rattle.std.proofs.Common.{◌≡◌, ℕ, ap, subst, sym, ◌∙◌}
use Rattle.mig_single_load.specs.declared.in_place_state.LoadState.{LoadState}
use Rattle.mig_single_load.specs.SingleLoad.{verdict_of}
use Rattle.mig_single_load.specs.LoadInPlace.{LoadInPlace, StandsOnto}
use Rattle.mig_single_load.proofs.LoadsInPlace.{verdict_onto}
use Rattle.mig_single_load.proofs.in_place_state.InPlaceState.verdict.Goals as goal

pub returns-in-Stream-clause-loads : goal.returns-in-Stream-clause-loads
returns-in-Stream-clause-loads g c = λ memory given first text ended loads.
    let s : LoadInPlace = c.args.self.now in
    let is = c.in-Stream.is in
    let same : s.state ≡ _ = ap (λ (x : LoadInPlace). x.state) (sym c.self.view_is) ∙ is in
    let count = ap (λ (x : LoadInPlace). x.rounds) c.self.view_is in
    verdict_onto given first text memory s.rounds s.pause c.in-Stream.found _ _
    (subst (λ (x : LoadState). StandsOnto given first text memory s.rounds s.pause x) same loads.stands)
    (c.verdict_at.ensures ∙ ap (λ (k : ℕ). verdict_of k c.in-Stream.found) count)
