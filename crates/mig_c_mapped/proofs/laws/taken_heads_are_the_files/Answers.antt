use Rattle.mig_c_mapped.proofs.FileHeads.{heads_taken}
use Rattle.mig_c_mapped.proofs.laws.taken_heads_are_the_files.Goals as goal

pub returns : goal.returns
returns c = heads_taken
