use Rattle.zimgasol_packing.specs.Packing.{drained_of}
use Rattle.zimgasol_packing.proofs.Steps.{ram_last}
use Rattle.zimgasol_packing.proofs.packing.ram_end.Goals as goal

pub returns-in-Ok : goal.returns-in-Ok
returns-in-Ok c = λ name parts has. ram_last name c.args.main.table parts c.in-Ok.last.items (c.in-Ok.ensures.ok (drained_of name) parts has)
