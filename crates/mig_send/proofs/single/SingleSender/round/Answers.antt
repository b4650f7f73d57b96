use Rattle.std.proofs.Common.{List, map, sym}
use Rattle.mig_mem.specs.Image.{Page}
use Rattle.mig_stream.specs.Written.{RoundPart}
use Rattle.mig_send.proofs.Sending.{round_sent}
use Rattle.mig_send.proofs.single.SingleSender.round.Goals as goal

pub returns-clause-ok : goal.returns-clause-ok
returns-clause-ok g c = λ drained rounds sent.
    round_sent drained _ rounds _ (c.in_ok-part.ensures.ok drained (map (λ (pages : List Page). RoundPart pages) rounds) (rw (sym c.self.view_is) at sent))
