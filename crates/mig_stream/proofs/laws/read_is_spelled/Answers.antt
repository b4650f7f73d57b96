use Rattle.mig_stream.proofs.Found.{read_law}
use Rattle.mig_stream.proofs.laws.read_is_spelled.Goals as goal

pub returns : goal.returns
returns c = read_law
