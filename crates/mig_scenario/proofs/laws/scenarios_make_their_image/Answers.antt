use Rattle.mig_scenario.proofs.Made.{made}
use Rattle.mig_scenario.proofs.laws.scenarios_make_their_image.Goals as goal

pub returns : goal.returns
returns c = made
