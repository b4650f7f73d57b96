use Rattle.zimgasol_filling.specs.Filled.{KeepsPages}
use Rattle.zimgasol_filling.proofs.filling.Filling.copy.Given as goal

abbrev pub invariant-pieces : goal.invariant-pieces
invariant-pieces g l =
    KeepsPages (g.F.PlacedFiles.has l.fn.self.target) (g.F.PlacedFiles.file l.fn.self.target) l.fn.self (g.F.PlacedFiles.has l.self.target)
    (g.F.PlacedFiles.file l.self.target) l.self
