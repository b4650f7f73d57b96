use Rattle.std.proofs.Common.{List, ℕ, ◌≡◌, ◌++◌, ◌∙◌, ap, refl, subst, sym}
use Rattle.mig_send.specs.ChannelWork.{RoundTerms, ChannelWork, HasPacked, HasPackedTo, IsStep}
use Rattle.mig_send.specs.Copies.{PacksPages}
use Rattle.mig_send.proofs.Stepping.{step_packed}
use Rattle.mig_send.proofs.Copies.{packs_pages}
use Rattle.mig_send.proofs.channel_worker.ChannelWorker.step.Goals as goal

pub returns-clause-packed : goal.returns-clause-packed
returns-clause-packed g c =
    let image = g.M.GuestPages.image c.args.memory.now in
    let old = c.self.inside in
    let new = c.step_parts.new in
    let step = subst (λ (terms : RoundTerms). IsStep image terms c.step_parts.result old.hand new.hand old.text.items new.text.items)
    c.deref.ensures c.step_parts.ensures.step in
    subst (λ (work : ChannelWork). (before drained : List ℕ) → HasPacked image before (drained ++ work.text) work
    → HasPackedTo image old.shared.value before (drained ++ new.text.items) new.hand) c.self.view_is
    (λ before drained packed. step_packed image old.shared.value c.step_parts.result old.hand new.hand old.text.items new.text.items before drained step packed)

pub returns-clause-pages : goal.returns-clause-pages
returns-clause-pages g c =
    let image = g.M.GuestPages.image c.args.memory.now in
    let old = c.self.inside in
    let new = c.step_parts.new in
    let work : ChannelWork = record { terms = old.shared.value; channel = old.channel; hand = old.hand; text = old.text.items } in
    let after : ChannelWork = record { terms = old.shared.value; channel = old.channel; hand = new.hand; text = new.text.items } in
    let table : image.table ≡ work.terms.table = c.requires.table ∙ ap (λ (x : ChannelWork). x.terms.table) (sym c.self.view_is) in
    let step = subst (λ (terms : RoundTerms). IsStep image terms c.step_parts.result old.hand new.hand old.text.items new.text.items)
    c.deref.ensures c.step_parts.ensures.step in
    subst (λ (x : ChannelWork). PacksPages image c.step_parts.result x after) c.self.view_is
    (packs_pages image c.step_parts.result work after table c.self.invariant.0 (record { same_terms = refl; same_channel = refl; is_step = step }))
