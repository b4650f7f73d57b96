use Rattle.std.proofs.Common.{ap, ◌∙◌}
use Rattle.mig_packet.specs.Reader.{Reader}
use Rattle.mig_packet.proofs.Standing.{hello_stands}
use Rattle.mig_packet.proofs.reader.ChannelReader.hello_id.Goals as goal

pub returns : goal.returns
returns g c = hello_stands c.args.self.now c.hello.result (c.hello.ensures ∙ ap (λ (r : Reader). r.progress.hello) c.self.view_is)
