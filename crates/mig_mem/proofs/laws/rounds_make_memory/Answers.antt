use Rattle.mig_mem.proofs.Rounds.{after_image}
use Rattle.mig_mem.proofs.laws.rounds_make_memory.Goals as goal

pub returns : goal.returns
returns c = after_image
