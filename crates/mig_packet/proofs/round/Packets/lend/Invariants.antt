use Rattle.std.proofs.Common.{◌≡◌, take, map}
use Rattle.std.specs.List.{All}
use Rattle.mig_packet.specs.declared.packet.Packet.{Packet}
use Rattle.mig_packet.proofs.round.Packets.lend.Given as goal

abbrev pub invariant-loop-text : goal.invariant-loop-text
invariant-loop-text g l = record {
  texts : map (λ (p : Packet). p.bytes.now) l.packets.items ≡ take l.text-index l.text-items;
  page_sizes : All (λ (p : Packet). p.page_size ≡ l.page_size) l.packets.items;
}
