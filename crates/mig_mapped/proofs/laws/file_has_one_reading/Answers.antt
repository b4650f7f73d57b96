use Rattle.mig_mapped.proofs.One.{one_reading_law}
use Rattle.mig_mapped.proofs.laws.file_has_one_reading.Goals as goal

pub returns : goal.returns
returns c = one_reading_law
