use Rattle.std.proofs.Common.{◌≡◌, ◌∙◌, ◌<◌, ap, length, subst, sym, arith}
use Rattle.std.specs.Arc.{arc_value}
use Rattle.std.specs.List.{All}
use Rattle.mig_deal.specs.Deal.{SeatView}
use Rattle.mig_send.specs.declared.channel_worker.Hand.{Hand}
use Rattle.mig_send.specs.ChannelWork.{RoundTerms, ChannelWork, seats_of}
use Rattle.mig_send.specs.MultiRound.{OpenMulti, TakesBack, handed_out}
use Rattle.mig_send.proofs.OpenRounds.{back_open, takes_back}
use Rattle.mig_send.proofs.multi_round.MultiRound.give_back.Goals as goal

pub invariant_of-self : goal.invariant_of-self
invariant_of-self g c =
    let s = c.self.inside in
    let w = c.worker.inside in
    let spent = c.in-Ended.spent in
    let old : OpenMulti = record { sender = s.sender; terms = arc_value s.shared; seats = s.seats.items; spents = s.spents.items } in
    let terms : arc_value w.shared ≡ old.terms =
    ap (λ (x : ChannelWork). x.terms) c.worker.view_is ∙ (c.requires.own ∙ sym (ap (λ (x : OpenMulti). x.terms) c.self.view_is)) in
    let few : length old.spents < handed_out old = subst (λ (x : OpenMulti). length x.spents < handed_out x) (sym c.self.view_is) c.requires.turn.1 in
    let IsOwn : SeatView → Type 0 = λ seat. seat.deal ≡ (arc_value w.shared).deal in
    let own = subst (λ (hand : Hand). All IsOwn (seats_of hand)) c.in-Ended.is c.worker.invariant.0.own in
    let of_deal : spent.deal ≡ old.terms.deal = own 0 spent (omega arith) ∙ ap (λ (t : RoundTerms). t.deal) terms in
    back_open old c.put_channel.new.self c.push.new.self.items spent w.channel w.text.items c.self.invariant few of_deal
    c.put_channel.ensures c.in-Ok.ensures.items

pub returns-in-Ok-clause-ok : goal.returns-in-Ok-clause-ok
returns-in-Ok-clause-ok g c =
    let s = c.self.inside in
    let w = c.worker.inside in
    let old : OpenMulti = record { sender = s.sender; terms = arc_value s.shared; seats = s.seats.items; spents = s.spents.items } in
    let new : OpenMulti = record old { sender = c.put_channel.new.self; spents = c.push.new.self.items } in
    let work : ChannelWork = record { terms = arc_value w.shared; channel = w.channel; hand = w.hand; text = w.text.items } in
    let terms : work.terms ≡ old.terms =
    ap (λ (x : ChannelWork). x.terms) c.worker.view_is ∙ (c.requires.own ∙ sym (ap (λ (x : OpenMulti). x.terms) c.self.view_is)) in
    let few : length old.spents < handed_out old = subst (λ (x : OpenMulti). length x.spents < handed_out x) (sym c.self.view_is) c.requires.turn.1 in
    let turn : work.channel ≡ length old.spents =
    ap (λ (x : ChannelWork). x.channel) c.worker.view_is ∙ (c.requires.turn.0 ∙ sym (ap (λ (x : OpenMulti). length x.spents) c.self.view_is)) in
    subst (λ (x : ChannelWork). TakesBack x c.args.self.now new) c.worker.view_is
    (subst (λ (x : OpenMulti). TakesBack work x new) c.self.view_is
    (takes_back work old c.put_channel.new.self c.push.new.self.items c.in-Ended.spent c.self.invariant terms turn few
    c.in-Ended.is c.put_channel.ensures c.in-Ok.ensures.items))
