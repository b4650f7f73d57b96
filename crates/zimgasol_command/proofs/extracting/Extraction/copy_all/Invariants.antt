use Rattle.zimgasol_filling.specs.Filled.{KeepsInto}
use Rattle.zimgasol_command.proofs.extracting.Extraction.copy_all.Given as goal

abbrev pub invariant-loop-file : goal.invariant-loop-file
invariant-loop-file g l = KeepsInto l.fn.self.filling l.self.filling
