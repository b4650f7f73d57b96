use Rattle.mig_assemble.proofs.Heads.{heads_judged}
use Rattle.mig_assemble.proofs.arrivals.heads_are_judged.Goals as goal

pub returns : goal.returns
returns c = heads_judged
