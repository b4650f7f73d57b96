use Rattle.mig_in_place.proofs.Sendings.{machine_sent_law}
use Rattle.mig_in_place.proofs.laws.machine_sent_is_loaded_in_place.Goals as goal

pub returns : goal.returns
returns c = machine_sent_law
