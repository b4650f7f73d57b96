use Rattle.std.proofs.Common.{ℕ, take, sym, subst}
use Rattle.mig_packet.specs.PacketHead.{IsPacketHead}
use Rattle.mig_packet.proofs.Heads.{head_front}
use Rattle.mig_packet.proofs.packet.Packet.head.Goals as goal

pub invariant_of-result-clause-is_head : goal.invariant_of-result-clause-is_head
invariant_of-result-clause-is_head c =
    subst (λ (n : ℕ). IsPacketHead c.args.self.now.page_size (take n c.args.self.now.bytes.now)) (sym c.head_len.ensures)
    (head_front c.args.self.now.page_size c.args.self.now.bytes.now c.args.self.now.is_packet)
