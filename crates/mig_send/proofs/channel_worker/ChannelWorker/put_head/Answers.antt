use Rattle.std.proofs.Common.{◌≡◌, subst}
use Rattle.std.specs.Prelude.{OnOk}
use Rattle.mig_send.specs.ChannelWork.{RoundTerms, ChannelWork, after_packet}
use Rattle.mig_send.specs.Heads.{WritesHead, PutsHead}
use Rattle.mig_send.proofs.Heads.{puts_head, on_ok}
use Rattle.mig_send.proofs.channel_worker.ChannelWorker.put_head.Goals as goal

pub returns-clause-head : goal.returns-clause-head
returns-clause-head g c =
    let old = c.self.inside in
    let new = c.head_parts.new in
    let work : ChannelWork = record { terms = old.shared.value; channel = old.channel; hand = old.hand; text = old.text.items } in
    let told = subst (λ (terms : RoundTerms). OnOk c.head_parts.result
    ((new.hand ≡ after_packet old.hand) × WritesHead terms old.hand c.args.zeros.now old.text.items new.text.items))
    c.deref.ensures c.head_parts.ensures.ok in
    subst (λ (x : ChannelWork). OnOk c.head_parts.result
    (PutsHead c.args.zeros.now x (record { terms = old.shared.value; channel = old.channel; hand = new.hand; text = new.text.items }))) c.self.view_is
    (on_ok c.head_parts.result told (λ both. puts_head work c.args.zeros.now new.hand new.text.items c.self.invariant.0 both.0 both.1))
