use Rattle.mig_stream.proofs.Exists.{one_reading_law}
use Rattle.mig_stream.proofs.laws.text_has_one_reading.Goals as goal

pub returns : goal.returns
returns c = one_reading_law
