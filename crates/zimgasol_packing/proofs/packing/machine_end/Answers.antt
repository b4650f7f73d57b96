use Rattle.zimgasol_packing.specs.Packing.{drained_of}
use Rattle.zimgasol_packing.proofs.Steps.{machine_last}
use Rattle.zimgasol_packing.proofs.packing.machine_end.Goals as goal

pub returns : goal.returns
returns c = λ name parts has.
    machine_last name c.args.main.table parts c.in-Ok.last.items c.push.new.self.items c.in_ok-push.ensures.items
    (c.in-Ok.ensures.ok (drained_of name) parts has)
