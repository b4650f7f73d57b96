use Rattle.std.proofs.Common.{◌∙◌, ◌++◌, ap}
use Rattle.mig_stream.specs.Written.{RoundPart}
use Rattle.mig_stream.specs.Writer.{Writer, PartSoFar}
use Rattle.mig_stream.proofs.Writing.{part_ended, section_end, HasDrained-next}
use Rattle.mig_stream.proofs.writer.OpenPart.end_part.Goals as goal

pub returns-in-Ok-clause-ok : goal.returns-in-Ok-clause-ok
returns-in-Ok-clause-ok g c = λ pages h drained parts sent.
    let now = ap (λ i. i.writer) c.self-inside.view_is ∙ ap (λ (p : PartSoFar). p.now) c.self.view_is in
    HasDrained-next drained c.args.self.before _ parts (RoundPart pages)
    (part_ended c.args.self _ pages h (ap (λ (w : Writer). w.table) now)
    (c.in-Ok.ensures.items ∙ ap (λ (w : Writer). w.text ++ section_end) now) (ap (λ (w : Writer). w.named) now)) sent
