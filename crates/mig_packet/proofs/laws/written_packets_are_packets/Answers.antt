use Rattle.mig_packet.proofs.ReadBack.{packet_back}
use Rattle.mig_packet.proofs.laws.written_packets_are_packets.Goals as goal

pub returns : goal.returns
returns c = packet_back
