use Rattle.mig_mapped.proofs.Tabled.{faultless_is_memory}
use Rattle.mig_mapped.proofs.laws.faultless_file_is_a_memory.Goals as goal

pub returns : goal.returns
returns c = faultless_is_memory
