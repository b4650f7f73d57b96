use Rattle.std.proofs.Common.{◌≡◌}
use Rattle.mig_relay.proofs.Ends.{shows, sized}
use Rattle.mig_relay.proofs.channel.Channel.received.Goals as goal

pub returns-clause-begun : goal.returns-clause-begun
returns-clause-begun g c = shows _ _ _ _ _ _ _ _ c.self.view_is c.self.invariant.1

pub returns-clause-page_sizes : goal.returns-clause-page_sizes
returns-clause-page_sizes g c =
    let same : c.as_slice.result.now ≡ c.self.inside.items.items = search in
    rw same (sized _ _ _ _ _ _ _ _ c.self.view_is c.self.invariant.1)
