use Rattle.mig_mem.proofs.Lawful.{table_law}
use Rattle.mig_mem.proofs.laws.table_is_lawful.Goals as goal

pub returns : goal.returns
returns c = table_law
