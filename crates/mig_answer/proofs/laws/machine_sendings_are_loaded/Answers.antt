use Rattle.mig_answer.proofs.SentWithin.{machine_within_law}
use Rattle.mig_answer.proofs.laws.machine_sendings_are_loaded.Goals as goal

pub returns : goal.returns
returns c = machine_within_law c.machine_sendings_are_read_back.ensures
