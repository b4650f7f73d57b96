use Rattle.mig_marking.proofs.Known.{written_is_seen}
use Rattle.mig_marking.proofs.laws.written_is_seen.Goals as goal

pub returns : goal.returns
returns c = written_is_seen
