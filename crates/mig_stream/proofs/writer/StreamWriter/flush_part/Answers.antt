use Rattle.std.proofs.Common.{ap}
use Rattle.mig_stream.specs.Writer.{Writer}
use Rattle.mig_stream.proofs.Writing.{flush_part}
use Rattle.mig_stream.proofs.writer.StreamWriter.flush_part.Goals as goal

pub returns-clause-ok : goal.returns-clause-ok
returns-clause-ok g c = λ drained parts h. flush_part drained c.args.self.now _ parts
    (ap (λ (w : Writer). w.table) c.self.view_is)
    (let e = ap (λ (w : Writer). w.text) c.self.view_is in rw (← e) c.in_ok-extend_from_slice.ensures.items)
    (ap (λ (w : Writer). w.named) c.self.view_is) h
