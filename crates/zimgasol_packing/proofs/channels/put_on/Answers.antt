use Rattle.std.proofs.Common.{rules}
use Rattle.zimgasol_packing.proofs.Steps.{puts_bytes}
use Rattle.zimgasol_packing.proofs.channels.put_on.Goals as goal

pub returns-clause-put : goal.returns-clause-put
returns-clause-put g c =
    puts_bytes g.F.Write.contents c.args.channels.now.items c.args.bytes.now c.args.channel c.index_mut.result.now c.write.new.self
    (search rules) c.index_mut.ensures.value c.in_ok-write.ensures
