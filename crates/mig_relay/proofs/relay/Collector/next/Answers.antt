use Rattle.std.proofs.Common.{◌≡◌, ◌<◌, List, length, refl, sym, subst, slice_get, slice_set, Some}
use Rattle.std.specs.Prelude.{IfOk}
use Rattle.std.proofs.lemmas.Option.{slice_get_read}
use Rattle.mig_relay.specs.RelayItems.{QueueEnd}
use Rattle.mig_relay.specs.Relay.{TakesAt}
use Rattle.mig_relay.proofs.Relays.{relay_stays, sources_stay, source_kept, takes_there}
use Rattle.mig_relay.proofs.relay.Collector.next.Goals as goal

pub invariant_of-self : goal.invariant_of-self
invariant_of-self g c =
    let ends : List QueueEnd = c.self.inside.channels.items in
    let p : QueueEnd = c.index_mut-channel.result.now in
    let below : c.args.j < length ends = subst (λ (l : List QueueEnd). c.args.j < length l) (sym c.self.view_is) c.requires in
    let there : slice_get ends c.args.j ≡ Some p = slice_get_read ends (length ends) c.args.j p refl below c.index_mut-channel.ensures.value in
    relay_stays ends (slice_set ends c.args.j c.next.new.self) c.self.invariant
    (sources_stay ends c.args.j p c.next.new.self there (source_kept p c.next.new.self c.next.result c.next.ensures.ok c.next.ensures.err))

pub returns-clause-ok : goal.returns-clause-ok
returns-clause-ok g c =
    let ends : List QueueEnd = c.self.inside.channels.items in
    let p : QueueEnd = c.index_mut-channel.result.now in
    let below : c.args.j < length ends = subst (λ (l : List QueueEnd). c.args.j < length l) (sym c.self.view_is) c.requires in
    let there : slice_get ends c.args.j ≡ Some p = slice_get_read ends (length ends) c.args.j p refl below c.index_mut-channel.ensures.value in
    subst (λ (l : List QueueEnd). IfOk c.next.result (λ more. TakesAt c.args.j l (slice_set ends c.args.j c.next.new.self) more)) c.self.view_is
    (takes_there ends c.args.j p c.next.new.self c.next.result there c.next.ensures.ok)
