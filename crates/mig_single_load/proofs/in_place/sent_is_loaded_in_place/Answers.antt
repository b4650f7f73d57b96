use Rattle.mig_single_load.proofs.LoadsInPlace.{sent_in_place}
use Rattle.mig_single_load.proofs.MachineSent.{ram_in_place}
use Rattle.mig_single_load.proofs.in_place.sent_is_loaded_in_place.Goals as goal

pub returns-clause-sent : goal.returns-clause-sent
returns-clause-sent c = sent_in_place

pub returns-clause-within : goal.returns-clause-within
returns-clause-within c = ram_in_place
