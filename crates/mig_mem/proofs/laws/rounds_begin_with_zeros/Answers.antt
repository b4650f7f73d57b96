use Rattle.mig_mem.proofs.Rounds.{onto-zeros}
use Rattle.mig_mem.proofs.laws.rounds_begin_with_zeros.Goals as goal

pub returns : goal.returns
returns c = onto-zeros
