use Rattle.std.proofs.Common.{refl}
use Rattle.mig_relay.proofs.Ends.{feeds_first, collects_none}
use Rattle.mig_relay.proofs.relay.open.Goals as goal

pub invariant_of-feeder : goal.invariant_of-feeder
invariant_of-feeder g c = (c.in_ok-sender.ensures.feeder.0, feeds_first _ _ _ c.requires.page_size c.requires.start c.in_ok-sender.ensures.feeder.1)

pub invariant_of-channel : goal.invariant_of-channel
invariant_of-channel g c = (
  c.in_ok-sender.ensures.collector.0,
  collects_none _ _ _ _ _ _ c.requires.page_size refl refl refl c.in_ok-sender.ensures.collector.1 c.new.ensures.items,
)
