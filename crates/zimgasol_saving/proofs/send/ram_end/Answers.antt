use Rattle.zimgasol_saving.proofs.Streams.{ram_ends}
use Rattle.zimgasol_saving.proofs.send.ram_end.Goals as goal

pub returns-in-Ok : goal.returns-in-Ok
returns-in-Ok c = ram_ends c.args.sender c.in-Ok.last.items c.in-Ok.ensures.ok
