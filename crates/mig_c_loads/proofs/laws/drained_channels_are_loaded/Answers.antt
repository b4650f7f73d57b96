use Rattle.mig_c_loads.proofs.Headline.{channels_law}
use Rattle.mig_c_loads.proofs.laws.drained_channels_are_loaded.Goals as goal

pub returns : goal.returns
returns c = channels_law
