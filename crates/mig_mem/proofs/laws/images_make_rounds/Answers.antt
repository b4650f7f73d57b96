use Rattle.mig_mem.proofs.Rounds.{image_round}
use Rattle.mig_mem.proofs.laws.images_make_rounds.Goals as goal

pub returns : goal.returns
returns c m s image set same = image_round m s.marked image (rw same at set.is_within)
