use Rattle.std.proofs.Common.{refl, subst}
use Rattle.mig_session.specs.Loading.{RoundLoad, round_load, TakesOn}
use Rattle.mig_sources.specs.Sources.{end_step}
use Rattle.mig_staged.specs.Staged.{staged}
use Rattle.mig_session.proofs.Settling.{end_took}
use Rattle.mig_session.proofs.loading.RoundLoad.end.Goals as goal

pub returns-clause-ok : goal.returns-clause-ok
returns-clause-ok g c =
    let i = c.self.inside in
    subst (λ (l : RoundLoad). TakesOn (end_step c.args.source) l (round_load c.end.new.self i.memory)) c.self.view_is
    (end_took c.args.source (round_load i.load i.memory) (round_load c.end.new.self i.memory) (c.end.ensures.steps (staged i.memory)) c.end.ensures.others refl)
