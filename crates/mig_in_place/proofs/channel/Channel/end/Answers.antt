use Rattle.std.proofs.Common.{ap, sym, subst}
use Rattle.mig_packet.specs.Paging.{PageHolder}
use Rattle.mig_in_place.specs.Sources.{KeptChannel, HoldsChannel}
use Rattle.mig_in_place.proofs.Channels.{ends}
use Rattle.mig_in_place.proofs.channel.Channel.end.Goals as goal

pub returns-clause-holds : goal.returns-clause-holds
returns-clause-holds g c = λ given table k text so_far holds.
    let i = c.self.inside in
    ends given table k text so_far i.reader c.end.new.self i.block i.is_whole (λ gives. c.end.ensures.gives given text.bytes so_far gives)
    (ap (λ (r : PageHolder). r.ended) c.end.ensures.value) (subst (λ (m : KeptChannel). HoldsChannel given table k text so_far m) (sym c.self.view_is) holds)
