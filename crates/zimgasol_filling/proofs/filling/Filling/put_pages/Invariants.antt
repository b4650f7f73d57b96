use Rattle.zimgasol_filling.specs.Filled.{KeepsPages}
use Rattle.zimgasol_filling.proofs.filling.Filling.put_pages.Given as goal

abbrev pub invariant-loop-content : goal.invariant-loop-content
invariant-loop-content g l =
    KeepsPages (g.F.PlacedFiles.has l.fn.self.target) (g.F.PlacedFiles.file l.fn.self.target) l.fn.self (g.F.PlacedFiles.has l.self.target)
    (g.F.PlacedFiles.file l.self.target) l.self
