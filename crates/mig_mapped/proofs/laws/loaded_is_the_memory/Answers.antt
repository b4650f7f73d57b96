use Rattle.mig_mapped.proofs.Whole.{loaded_is_memory}
use Rattle.mig_mapped.proofs.laws.loaded_is_the_memory.Goals as goal

pub returns : goal.returns
returns c = loaded_is_memory
