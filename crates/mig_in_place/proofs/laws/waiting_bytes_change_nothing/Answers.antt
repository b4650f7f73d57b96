use Rattle.mig_in_place.proofs.Waits.{waiting_law}
use Rattle.mig_in_place.proofs.laws.waiting_bytes_change_nothing.Goals as goal

pub returns : goal.returns
returns c = waiting_law
