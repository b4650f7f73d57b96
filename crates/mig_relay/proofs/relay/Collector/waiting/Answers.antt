use Rattle.std.proofs.Common.{◌≡◌, List, subst}
use Rattle.std.specs.List.{All}
use Rattle.mig_relay.specs.RelayItems.{QueueEnd}
use Rattle.mig_relay.proofs.Relays.{relay_limits}
use Rattle.mig_relay.proofs.relay.Collector.waiting.Goals as goal

pub returns : goal.returns
returns g c =
    let ends : List QueueEnd = c.self.inside.channels.items in
    subst (λ (l : List QueueEnd). All (λ p. p.source.waiting ≡ c.waiting.result) l) c.self.view_is
    (relay_limits ends c.index.result.now c.self.invariant c.index.ensures c.waiting.result c.waiting.ensures)
