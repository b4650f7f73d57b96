use Rattle.std.proofs.Common.{Bool, sym, subst}
use Rattle.mig_answer.specs.declared.status.Status.TheVariants.{Whole}
use Rattle.mig_in_place.specs.Sources.{KeptChannel, TellsChannelStatus}
use Rattle.mig_in_place.proofs.Channels.{kept, tells_whole, tells_end}
use Rattle.mig_in_place.proofs.channel.Channel.status.Goals as goal

pub returns-then-self-clause-tells : goal.returns-then-self-clause-tells
returns-then-self-clause-tells g c =
    let i = c.self.inside in
    subst (λ (m : KeptChannel). TellsChannelStatus m Whole) c.self.view_is
    (subst (λ (b : Bool). TellsChannelStatus (kept i.reader i.block b) Whole) (sym c.if-self.true) (tells_whole i.reader i.block))

pub returns-clause-tells : goal.returns-clause-tells
returns-clause-tells g c =
    let i = c.self.inside in
    subst (λ (m : KeptChannel). TellsChannelStatus m c.channel_end.result) c.self.view_is
    (subst (λ (b : Bool). TellsChannelStatus (kept i.reader i.block b) c.channel_end.result) (sym c.if-self.false)
    (tells_end i.reader i.block c.state.result c.channel_end.result c.state.ensures.reading c.channel_end.ensures))
