use Rattle.std.proofs.Common.{◌∙◌, sym, ap}
use Rattle.mig_in_place.specs.Sources.{at_next_round}
use Rattle.mig_in_place.proofs.Zips.{next_more}
use Rattle.mig_in_place.proofs.session.advance_channels.Goals as goal

pub loop-channel-preserved : goal.loop-channel-preserved
loop-channel-preserved g c =
    next_more at_next_round c.args.channels.now c.loop-channel.channels c.loop-channel.channel-index c.channel-item.result
    c.advance.new.self c.loop-channel-test.true c.loop-channel.invariant (sym c.channel-item.is)
    (c.advance.ensures ∙ ap at_next_round (sym c.channel-item.is))
