use Rattle.mig_assemble.proofs.Arriving.{others_stay}
use Rattle.mig_assemble.proofs.arrivals.other_places_stay.Goals as goal

pub returns : goal.returns
returns c = others_stay
