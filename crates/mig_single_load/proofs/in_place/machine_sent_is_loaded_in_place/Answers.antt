use Rattle.mig_single_load.proofs.MachineSent.{machine_in_place}
use Rattle.mig_single_load.proofs.in_place.machine_sent_is_loaded_in_place.Goals as goal

pub returns : goal.returns
returns c = machine_in_place
