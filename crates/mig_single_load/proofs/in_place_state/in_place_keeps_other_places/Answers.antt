use Rattle.mig_single_load.proofs.LoadsInPlace.{other_places}
use Rattle.mig_single_load.proofs.in_place_state.in_place_keeps_other_places.Goals as goal

pub returns : goal.returns
returns c = other_places
