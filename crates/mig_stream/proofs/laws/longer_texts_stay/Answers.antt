use Rattle.mig_stream.proofs.Longer.{longer_law}
use Rattle.mig_stream.proofs.laws.longer_texts_stay.Goals as goal

pub returns : goal.returns
returns c = longer_law
