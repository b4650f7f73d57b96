use Rattle.mig_in_place.proofs.SomeTakes.{some_takes_law}
use Rattle.mig_in_place.proofs.laws.running_takes_some.Goals as goal

pub returns : goal.returns
returns c = some_takes_law
