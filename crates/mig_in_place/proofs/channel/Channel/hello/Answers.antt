use Rattle.std.proofs.Common.{subst}
use Rattle.mig_in_place.specs.Sources.{KeptChannel, TellsHello}
use Rattle.mig_in_place.proofs.Channels.{kept, tells_hello}
use Rattle.mig_in_place.proofs.channel.Channel.hello.Goals as goal

pub returns : goal.returns
returns g c =
    let i = c.self.inside in
    subst (λ (m : KeptChannel). TellsHello m c.hello_id.result) c.self.view_is
    (tells_hello (kept i.reader i.block i.is_whole) c.hello_id.result c.hello_id.ensures.hello)
