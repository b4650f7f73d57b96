use Rattle.std.proofs.Common.{refl}
use Rattle.zimgasol_filling.proofs.Steps.{run_turned}
use Rattle.zimgasol_filling.proofs.filling.Filling.turn_to.Goals as goal

pub returns-clause-filled : goal.returns-clause-filled
returns-clause-filled g c = λ memory is.
    run_turned (g.F.PlacedFiles.has c.write_run.new.self.target) (g.F.PlacedFiles.file c.write_run.new.self.target) c.write_run.new.self _ refl refl refl
    c.in_ok-write_run.ensures.none c.in_ok-write_run.ensures.none memory (c.in_ok-write_run.ensures.filled memory is)
