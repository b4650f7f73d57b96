use Rattle.std.proofs.Common.{sym, ◌∙◌}
use Rattle.crossbeam_channel.specs.Claims.{view}
use Rattle.mig_relay.proofs.Ends.{feeds_next, pushes_stop, pushes_more}
use Rattle.mig_relay.proofs.feeder.Feeder.step.Goals as goal

pub push-requires-clause-next : goal.push-requires-clause-next
push-requires-clause-next g c = feeds_next _ _ _ _ _ _ c.self.invariant.1 c.read-message.ensures

pub returns-then-is_stop : goal.returns-then-is_stop
returns-then-is_stop g c =
    pushes_stop (view c.self.inside.pass) (view c.push.new.pass) _ _ _ _ c.self.view_is c.push.ensures.seat.1 c.push.ensures.pushed
    (feeds_next _ _ _ _ _ _ c.self.invariant.1 c.read-message.ensures) (sym c.is_stop.ensures ∙ c.if-is_stop.true)

pub returns : goal.returns
returns g c =
    pushes_more (view c.self.inside.pass) (view c.push.new.pass) _ _ _ _ c.self.view_is c.push.ensures.seat.1 c.push.ensures.pushed
    (feeds_next _ _ _ _ _ _ c.self.invariant.1 c.read-message.ensures) (sym c.is_stop.ensures ∙ c.if-is_stop.false)
