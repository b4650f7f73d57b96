use Rattle.std.proofs.Common.{◌≡◌, take, map}
use Rattle.mig_packet.specs.PacketHead.{offsets_in}
use Rattle.mig_assemble.specs.NamedPlaces.{with_places}
use Rattle.mig_assemble.proofs.PacketPlaces.{place_of}
use Rattle.mig_assemble.proofs.named.name_pages.Given as goal

abbrev pub invariant-loop-i : goal.invariant-loop-i
invariant-loop-i g l = record {
  table : l.named.table ≡ l.fn.named.table;
  named : l.named ≡ with_places l.fn.named (map (place_of l.fn.named.table l.block) (take l.i (offsets_in l.head.bytes.now)));
}
