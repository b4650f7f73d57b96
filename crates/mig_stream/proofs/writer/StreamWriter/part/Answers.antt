use Rattle.mig_mem.specs.Round.{round_of}
use Rattle.mig_stream.specs.Written.{RoundPart}
use Rattle.mig_stream.proofs.Writing.{on_ok_so, HasDrained-next}
use Rattle.mig_stream.proofs.writer.StreamWriter.part.Goals as goal

pub returns-else-is_err-clause-ok : goal.returns-else-is_err-clause-ok
returns-else-is_err-clause-ok g c = on_ok_so c.put_part-put.result _ _ c.put_part-put.ensures.ok
    (λ step drained parts h. HasDrained-next drained c.args.self.now c.put_part-put.new.self parts
    (RoundPart (round_of (g.G.GuestPages.image c.args.image.now) c.args.dirty.now.marked)) step h)
