use Rattle.mig_single_load.proofs.LoadsInPlace.{closed_by_sections}
use Rattle.mig_single_load.proofs.in_place_state.in_place_ok_is_whole.Goals as goal

pub returns : goal.returns
returns c = closed_by_sections
