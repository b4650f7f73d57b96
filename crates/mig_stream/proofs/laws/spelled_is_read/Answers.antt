use Rattle.mig_stream.proofs.SpelledText.{spelled_law}
use Rattle.mig_stream.proofs.laws.spelled_is_read.Goals as goal

pub returns : goal.returns
returns c = spelled_law
