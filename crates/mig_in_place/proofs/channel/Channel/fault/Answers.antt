use Rattle.std.proofs.Common.{subst}
use Rattle.mig_in_place.specs.Sources.{KeptChannel, TellsChannelFault}
use Rattle.mig_in_place.proofs.Channels.{kept, tells_fault}
use Rattle.mig_in_place.proofs.channel.Channel.fault.Goals as goal

pub returns : goal.returns
returns g c =
    let i = c.self.inside in
    subst (λ (m : KeptChannel). TellsChannelFault m c.fault_of.result) c.self.view_is
    (tells_fault (kept i.reader i.block i.is_whole) c.state.result c.channel_end.result c.fault_of.result c.state.ensures.reading
    c.channel_end.ensures c.fault_of.ensures)
