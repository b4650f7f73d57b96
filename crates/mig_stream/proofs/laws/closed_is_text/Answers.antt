use Rattle.mig_stream.proofs.Closed.{closed_law}
use Rattle.mig_stream.proofs.laws.closed_is_text.Goals as goal

pub returns : goal.returns
returns c = closed_law
