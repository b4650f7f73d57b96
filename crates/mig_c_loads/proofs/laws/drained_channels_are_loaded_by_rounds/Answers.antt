use Rattle.mig_c_loads.proofs.Headline.{by_rounds_law}
use Rattle.mig_c_loads.proofs.laws.drained_channels_are_loaded_by_rounds.Goals as goal

pub returns : goal.returns
returns c = by_rounds_law
