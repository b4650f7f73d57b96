use Rattle.mig_mem.proofs.Rounds.{all_pages_sent}
use Rattle.mig_mem.proofs.laws.all_pages_make_memory.Goals as goal

pub returns : goal.returns
returns c = all_pages_sent
