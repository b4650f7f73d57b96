use Rattle.std.proofs.Common.{◌≡◌, ◌-◌, arith, subst, sym}
use Rattle.std.specs.Arc.{arc_value}
use Rattle.mig_send.specs.declared.channel_worker.Hand.TheVariants.{Drawing}
use Rattle.mig_send.specs.ChannelWork.{RoundTerms}
use Rattle.mig_send.specs.MultiRound.{OpenMulti, HandsOut, handed_out}
use Rattle.mig_send.proofs.OpenRounds.{hands_out}
use Rattle.mig_send.proofs.multi_round.MultiRound.worker.Goals as goal

pub returns-clause-ok : goal.returns-clause-ok
returns-clause-ok g c =
    let s = c.self.inside in
    let old : OpenMulti = record { sender = s.sender; terms = arc_value s.shared; seats = s.seats.items; spents = s.spents.items } in
    let new : OpenMulti = record old { sender = c.take_channel-text.new.self; seats = c.pop.new.self.items } in
    let at = c.channels.result - c.len.result in
    let text = c.take_channel-text.result.items in
    let next : at ≡ handed_out old = omega (arith, c.channels.ensures, c.len.ensures, s.seats.ok.0) in
    let is = hands_out old c.take_channel-text.new.self c.pop.new.self.items c.in-Some.seat at text c.self.invariant next c.in-Some.ensures.items
    c.take_channel-text.ensures.rest c.take_channel-text.ensures.text in
    subst (λ (r : OpenMulti). HandsOut r new
    (record { terms = arc_value c.in-Ok.shared; channel = at; hand = Drawing c.in-Some.seat; text = text })) c.self.view_is
    (subst (λ (t : RoundTerms). HandsOut old new (record { terms = t; channel = at; hand = Drawing c.in-Some.seat; text = text })) (sym c.in-Ok.ensures) is)
