use Rattle.mig_mem.proofs.SameTables.{tables_decide}
use Rattle.mig_mem.proofs.laws.equal_tables_are_the_same.Goals as goal

pub returns : goal.returns
returns c = tables_decide
