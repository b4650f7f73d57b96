use Rattle.std.proofs.Common.{◌≡◌, ◌∙◌, length, sym, ap, subst}
use Rattle.mig_mem.specs.PlaceSet.{PlaceSet}
use Rattle.mig_assemble.specs.Arrivals.{RoundSoFar}
use Rattle.mig_assemble.specs.NamedPlaces.{AddsPlaces, AddsArrivals}
use Rattle.mig_assemble.proofs.AddingPlaces.{taken_over, each_added}
use Rattle.mig_assemble.proofs.arrivals.Arrivals.clear_into.Goals.{then-count-eq0, else-count-eq0}
use Rattle.mig_assemble.proofs.arrivals.Arrivals.clear_into.Goals as goal

pub returns-clause-adds : goal.returns-clause-adds
returns-clause-adds g c = elim c.if-count-eq0.branch [
  | then-count-eq0 w ↦
      let none : length c.args.named.now.marked ≡ 0 = sym c.count.ensures.value ∙ w.if-count-eq0.true in
      let same : c.if-count-eq0.named ≡ c.args.self.now.seen = w.named-is ∙ w.swap.ensures.x_after ∙ ap (λ (r : RoundSoFar). r.seen) c.self.view_is in
      subst (λ (s : PlaceSet). AddsArrivals c.args.self.now c.args.named.now s) (sym same) (taken_over c.args.self.now c.args.named.now none)
  | else-count-eq0 w ↦
      let seen : c.self.inside.seen ≡ c.args.self.now.seen = ap (λ (r : RoundSoFar). r.seen) c.self.view_is in
      let adds = subst (λ (s : PlaceSet). AddsPlaces s.marked c.args.named.now w.add_places.new.named) seen w.add_places.ensures.adds in
      subst (λ (s : PlaceSet). AddsArrivals c.args.self.now c.args.named.now s) (sym w.named-is)
      (each_added c.args.self.now c.args.named.now w.add_places.new.named adds)
]
