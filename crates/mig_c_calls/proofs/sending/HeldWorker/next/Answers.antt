use Rattle.std.proofs.Common.{List, ℕ, ◌≡◌, ◌++◌, ◌∙◌, refl, sym, ap, subst}
use Rattle.mig_send.specs.declared.channel_worker.Hand.{Hand}
use Rattle.mig_send.specs.ChannelWork.{ChannelWork, HasClaimed, HasPacked}
use Rattle.mig_c_calls.proofs.Sends.{worker_steps}
use Rattle.mig_c_calls.proofs.Copies.{ends_named, no_batch_then}
use Rattle.mig_c_calls.proofs.sending.HeldWorker.next.Goals as goal

pub returns : goal.returns
returns c =
    let old = c.args.self.now in
    let claimed = c.claim.new.self in
    let ends = c.end_channel.ensures.ends in
    let rest = c.claim.ensures.rest in
    let terms : claimed.terms ≡ old.worker.terms = ap (λ (w : ChannelWork). w.terms) rest in
    let text : claimed.text ≡ old.worker.text = ap (λ (w : ChannelWork). w.text) rest in
    record {
      is_named = ends_named c.end_channel.result ends.is_named;
      names = λ running. absurd (no_batch_then c.end_channel.result ends.is_named running);
      ended = ends.ended;
      claims = λ other. subst (λ (h : Hand). HasClaimed old.worker.terms.deal old.worker.hand h) (sym (ends.same_hand other)) c.claim.ensures.claimed;
      packs = λ image sent given more same packs.
          worker_steps image sent given more old _ refl
          (λ before drained packed.
          c.end_channel.ensures.packed image before drained (same ∙ ap (λ t. t.table) (sym terms))
          (subst (λ (l : List ℕ). HasPacked image before (drained ++ l) claimed) (sym text)
          (c.claim.ensures.packed image before (drained ++ old.worker.text) packed)))
          packs;
      same_text = λ other. ends.same_text other ∙ text;
      same_named = λ _. (c.name_claimed.ensures.none c.if-name_claimed.false).1;
      same_work = (ends.same_work.0 ∙ terms, ends.same_work.1 ∙ ap (λ (w : ChannelWork). w.channel) rest, refl);
    }
