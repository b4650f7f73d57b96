use Rattle.mig_image.proofs.ReadBack.{image_is_read_back}
use Rattle.mig_image.proofs.laws.image_is_read_back.Goals as goal

pub returns : goal.returns
returns c = image_is_read_back
