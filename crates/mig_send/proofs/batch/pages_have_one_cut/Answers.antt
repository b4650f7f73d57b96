use Rattle.mig_send.proofs.Cutting.{has_one_cut}
use Rattle.mig_send.proofs.batch.pages_have_one_cut.Goals as goal

pub returns : goal.returns
returns c = has_one_cut
