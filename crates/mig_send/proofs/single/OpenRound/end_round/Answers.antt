use Rattle.std.proofs.Common.{List, map, sym}
use Rattle.mig_mem.specs.Image.{Page}
use Rattle.mig_stream.specs.Written.{RoundPart}
use Rattle.mig_send.proofs.Sending.{round_sent}
use Rattle.mig_send.proofs.single.OpenRound.end_round.Goals as goal

pub returns-in-Ok-clause-ok : goal.returns-in-Ok-clause-ok
returns-in-Ok-clause-ok g c = λ pages put drained rounds sent.
    round_sent drained _ rounds pages
    (c.in-Ok.ensures.ok pages (rw (sym c.self.view_is) at put) drained (map (λ (round : List Page). RoundPart round) rounds) (rw (sym c.self.view_is) at sent))
