use Rattle.mig_c_mapped.proofs.FileHeads.{file_read}
use Rattle.mig_c_mapped.proofs.laws.taken_file_is_read.Goals as goal

pub returns : goal.returns
returns c = file_read
