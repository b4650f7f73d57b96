use Rattle.mig_stream.proofs.Closed.{machine_closed_law}
use Rattle.mig_stream.proofs.laws.machine_closed_is_text.Goals as goal

pub returns : goal.returns
returns c = machine_closed_law
