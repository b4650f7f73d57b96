use Rattle.mig_in_place.proofs.DoneStays.{stays_law}
use Rattle.mig_in_place.proofs.laws.in_place_done_stays.Goals as goal

pub returns : goal.returns
returns c = stays_law
