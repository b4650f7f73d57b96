use Rattle.mig_c_loads.proofs.Headline.{one_law}
use Rattle.mig_c_loads.proofs.laws.drained_is_loaded.Goals as goal

pub returns : goal.returns
returns c = one_law
