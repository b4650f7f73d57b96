use Rattle.std.proofs.Common.{◌≡◌, List, subst}
use Rattle.std.specs.List.{All}
use Rattle.mig_relay.specs.RelayItems.{QueueEnd}
use Rattle.mig_relay.specs.Relayed.{IsRelay}
use Rattle.mig_relay.proofs.Relays.{relay_sizes}
use Rattle.mig_relay.proofs.relay.Collector.page_size.Goals as goal

pub returns-clause-value : goal.returns-clause-value
returns-clause-value g c =
    let ends : List QueueEnd = c.self.inside.channels.items in
    subst (λ (l : List QueueEnd). All (λ p. p.source.page_size ≡ c.page_size.result) l) c.self.view_is
    (relay_sizes ends c.index.result.now c.self.invariant c.index.ensures c.page_size.result c.page_size.ensures.value)

pub returns-clause-relay : goal.returns-clause-relay
returns-clause-relay g c = subst IsRelay c.self.view_is c.self.invariant
