use Rattle.mig_in_place.proofs.Done.{alike_law}
use Rattle.mig_in_place.proofs.laws.in_place_tells_alike.Goals as goal

pub returns : goal.returns
returns c = alike_law
