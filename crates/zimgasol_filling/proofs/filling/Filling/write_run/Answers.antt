use Rattle.std.proofs.Common.{rules, ◌≡◌, [], length}
use Rattle.std.proofs.lemmas.List.{nil_from_length}
use Rattle.zimgasol_filling.proofs.Steps.{memory_is_there}
use Rattle.zimgasol_filling.proofs.filling.Filling.write_run.Goals as goal

pub returns-then-is_empty-clause-written : goal.returns-then-is_empty-clause-written
returns-then-is_empty-clause-written g c = λ memory is.
    let len : length c.args.self.now.run.bytes.items ≡ 0 = search rules in
    let none : c.args.self.now.run.bytes.items ≡ [] = nil_from_length c.args.self.now.run.bytes.items len in
    memory_is_there (g.F.PlacedFiles.has c.args.self.now.target) (g.F.PlacedFiles.file c.args.self.now.target) c.args.self.now memory none is
