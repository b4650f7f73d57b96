use Rattle.std.proofs.Common.{ℕ, ◌≡◌, List, ◌++◌, ◌∙◌, map, subst, sym, append_assoc}
use Rattle.std.specs.Prelude.{Option}
use Rattle.mig_mem.specs.Image.{Page}
use Rattle.mig_stream.specs.Text.{file_header, configuration}
use Rattle.mig_stream.specs.Written.{RoundPart}
use Rattle.mig_stream.specs.Writer.{Writer}
use Rattle.mig_stream.specs.MachineWritten.{machine_written}
use Rattle.mig_send.specs.Sending.{HasSentDrained}
use Rattle.mig_send.proofs.single.SingleSender.finish_open.Goals as goal

pub returns-in-Ok-clause-configured : goal.returns-in-Ok-clause-configured
returns-in-Ok-clause-configured g c =
    let bytes : List ℕ = c.in-Ok.bytes.items in
    subst (λ (w : Writer). (name : Option (List ℕ)) (drained : List ℕ) (rounds : List (List Page)) → HasSentDrained (file_header ++ drained) w rounds
    → file_header ++ configuration name ++ drained ++ bytes ≡ machine_written name w.table (map RoundPart rounds)) c.self.view_is
    (λ name drained rounds sent.
    let parts = map RoundPart rounds in
    append_assoc (file_header ++ configuration name) drained bytes
    ∙ c.configured_is_written.ensures.open_end name c.self.inside.writer.table parts (drained ++ bytes)
    (sym (append_assoc file_header drained bytes) ∙ c.in-Ok.ensures.ok (file_header ++ drained) parts sent))
