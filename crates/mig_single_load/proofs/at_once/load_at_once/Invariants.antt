use Rattle.mig_mem.specs.RamTable.{RamTable}
use Rattle.mig_single_load.proofs.LoadedAtOnce.{calls, HasPut}
use Rattle.mig_single_load.proofs.at_once.load_at_once.Given as goal

abbrev pub invariant-pieces : goal.invariant-pieces
invariant-pieces g l = (table : RamTable) × HasPut l.fn.settings l.text table l.gave l.reader l.memory l.named l.sections

abbrev pub decreases-pieces : goal.decreases-pieces
decreases-pieces g l = calls l.gave l.reader
