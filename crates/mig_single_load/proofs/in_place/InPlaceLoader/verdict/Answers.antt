use Rattle.std.proofs.Common.{subst, sym, ap, ◌∙◌}
use Rattle.mig_single_load.specs.SingleLoad.{no_memory_at}
use Rattle.mig_single_load.specs.LoadInPlace.{InPlace, LoadsOnto, LacksOnto}
use Rattle.mig_single_load.proofs.in_place.InPlaceLoader.verdict.Goals as goal

pub returns-clause-loads : goal.returns-clause-loads
returns-clause-loads g c = λ given first text ended before.
    c.verdict.ensures.loads (g.M.GuestTarget.image c.self.inside.memory) given first text ended
    (subst (λ (l : InPlace). LoadsOnto given first l text ended) (sym c.self.view_is) before)

pub returns-clause-lacking : goal.returns-clause-lacking
returns-clause-lacking g c = λ given first text ended before.
    c.verdict.ensures.lacking (g.M.GuestTarget.image c.self.inside.memory) given first text ended
    (subst (λ (l : InPlace). LacksOnto given first l text ended) (sym c.self.view_is) before)
    ∙ ap (λ (l : InPlace). no_memory_at l.load.rounds) c.self.view_is
