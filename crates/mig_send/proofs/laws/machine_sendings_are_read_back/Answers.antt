use Rattle.mig_send.proofs.ReadBack.{machine_sendings_are_read_back}
use Rattle.mig_send.proofs.laws.machine_sendings_are_read_back.Goals as goal

pub returns : goal.returns
returns c = machine_sendings_are_read_back c.machine_written_is_text.ensures.main c.sendings_are_read_back.ensures
