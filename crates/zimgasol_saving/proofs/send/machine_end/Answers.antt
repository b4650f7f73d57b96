use Rattle.zimgasol_saving.proofs.Streams.{machine_ends}
use Rattle.zimgasol_saving.proofs.send.machine_end.Goals as goal

pub returns : goal.returns
returns c = machine_ends c.args.sender c.in-Ok.last.items c.push.new.self.items c.in_ok-push.ensures.items c.in-Ok.ensures.ok c.in-Ok.ensures.configured
