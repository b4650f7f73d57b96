use Rattle.mig_image.proofs.ReadBack.{file_is_written_back}
use Rattle.mig_image.proofs.laws.file_is_written_back.Goals as goal

pub returns : goal.returns
returns c = file_is_written_back
