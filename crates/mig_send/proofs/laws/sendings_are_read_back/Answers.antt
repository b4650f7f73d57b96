use Rattle.mig_send.proofs.ReadBack.{sendings_are_read_back}
use Rattle.mig_send.proofs.laws.sendings_are_read_back.Goals as goal

pub returns : goal.returns
returns c = sendings_are_read_back c.written_is_text.ensures.main c.spelled_is_read.ensures
