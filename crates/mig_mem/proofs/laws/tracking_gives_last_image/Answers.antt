use Rattle.mig_mem.proofs.Tracked.{tracked}
use Rattle.mig_mem.proofs.laws.tracking_gives_last_image.Goals as goal

pub returns : goal.returns
returns c = tracked
