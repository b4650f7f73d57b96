use Rattle.std.proofs.Common.{refl}
use Rattle.mig_send.proofs.Working.{written_of}
use Rattle.mig_send.proofs.share.write_share.Goals as goal

pub returns : goal.returns
returns g c =
    written_of (g.M.GuestPages.image c.args.memory.now) c.args.batches.now c.args.seat c.args.text.items c.fill-made.new.sink.text.items c.fill-made.result
    record { text = c.end-made.new.text; made = c.end-made.result; spent = c.fill-made.result.spent }
    c.fill-made.ensures refl c.end-made.ensures.made c.end-made.ensures.ok c.end-made.ensures.prefix
