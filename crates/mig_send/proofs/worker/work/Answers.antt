use Rattle.mig_send.proofs.Working.{worked_of}
use Rattle.mig_send.proofs.worker.work.Goals as goal

pub returns : goal.returns
returns g c =
    worked_of (g.M.GuestPages.image c.args.memory.now) c.args.batches.now c.args.seat c.fill-made.new.sink c.fill-made.result c.all_of.result
    c.new-packets.result.items c.new-packets.ensures.items c.fill-made.ensures c.all_of.ensures
