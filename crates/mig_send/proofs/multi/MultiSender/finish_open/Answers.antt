use Rattle.std.proofs.Common.{ℕ, List, ◌++◌, ◌∙◌, length, replicate, refl, subst, sym, append_assoc}
use Rattle.std.specs.Prelude.{Option, None}
use Rattle.mig_stream.specs.Text.{file_header, configuration}
use Rattle.mig_stream.specs.Written.{FlushPart}
use Rattle.mig_send.specs.DealtRounds.{DealtRound, IsMachineSending}
use Rattle.mig_send.specs.MultiSending.{MultiSending, Drained, HasSentRounds, whole_texts, texts_of}
use Rattle.mig_send.proofs.Sendings.{sending_of}
use Rattle.mig_send.proofs.multi.MultiSender.finish_open.Goals as goal

pub returns-in-Ok-clause-ok : goal.returns-in-Ok-clause-ok
returns-in-Ok-clause-ok g c =
    let texts = texts_of c.self.inside.channels.items in
    subst (λ (s : MultiSending). (drained : Drained) (rounds : List DealtRound) → HasSentRounds drained s rounds
    → IsMachineSending None s.main.table s.uuid s.limit (length s.channels) rounds (drained.main ++ c.in-Ok.open.items)
    (whole_texts drained texts)) c.self.view_is
    (λ drained rounds sent. record {
      is_sending = sending_of _ drained rounds _ c.self.invariant sent refl;
      has_main = c.in-Ok.ensures.ok drained.main (replicate (length rounds) FlushPart) sent.has_main;
    })

pub returns-in-Ok-clause-configured : goal.returns-in-Ok-clause-configured
returns-in-Ok-clause-configured g c =
    let texts = texts_of c.self.inside.channels.items in
    let end : List ℕ = c.in-Ok.open.items in
    subst (λ (s : MultiSending). (name : Option (List ℕ)) (main : List ℕ) (drained : Drained) (rounds : List DealtRound)
    → HasSentRounds (record drained { main = file_header ++ main }) s rounds
    → IsMachineSending name s.main.table s.uuid s.limit (length s.channels) rounds
    (file_header ++ configuration name ++ main ++ end) (whole_texts drained texts)) c.self.view_is
    (λ name main drained rounds sent. let flushes = replicate (length rounds) FlushPart in record {
      is_sending = sending_of _ (record drained { main = file_header ++ main }) rounds _ c.self.invariant sent refl;
      has_main = append_assoc (file_header ++ configuration name) main end
          ∙ c.configured_is_written.ensures.open_end name c.self.inside.main.table flushes (main ++ end)
          (sym (append_assoc file_header main end) ∙ c.in-Ok.ensures.ok (file_header ++ main) flushes sent.has_main);
    })
