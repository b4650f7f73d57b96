use Rattle.std.proofs.Common.{List, ◌++◌, length, replicate, subst}
use Rattle.mig_stream.specs.Written.{FlushPart}
use Rattle.mig_send.specs.DealtRounds.{DealtRound, IsSending}
use Rattle.mig_send.specs.MultiSending.{MultiSending, Drained, HasSentRounds, whole_texts, texts_of}
use Rattle.mig_send.proofs.Sendings.{sending_of}
use Rattle.mig_send.proofs.multi.MultiSender.finish.Goals as goal

pub returns-in-Ok-clause-ok : goal.returns-in-Ok-clause-ok
returns-in-Ok-clause-ok g c =
    let texts = texts_of c.self.inside.channels.items in
    subst (λ (s : MultiSending). (drained : Drained) (rounds : List DealtRound) → HasSentRounds drained s rounds
    → IsSending s.main.table s.uuid s.limit (length s.channels) rounds (drained.main ++ c.in-Ok.main.items) (whole_texts drained texts)) c.self.view_is
    (λ drained rounds sent. sending_of _ drained rounds _ c.self.invariant sent
    (c.in-Ok.ensures.ok drained.main (replicate (length rounds) FlushPart) sent.has_main))
