use Rattle.std.proofs.Common.{◌≡◌, rules}
use Rattle.mig_packet.specs.Reading.{state_at}
use Rattle.mig_packet.proofs.Standing.{state_stands}
use Rattle.mig_packet.proofs.reader.ChannelReader.state.Goals as goal

pub returns-then-is_reading : goal.returns-then-is_reading
returns-then-is_reading g c =
    let r = c.args.self.now in
    let value : c.state_at_end.result ≡ state_at r.ended r.progress r.pending r.found = search rules in
    state_stands r c.state_at_end.result value

pub returns-else-self : goal.returns-else-self
returns-else-self g c =
    let r = c.args.self.now in
    let value : c.self.inside.found ≡ state_at r.ended r.progress r.pending r.found = search rules in
    state_stands r c.self.inside.found value
