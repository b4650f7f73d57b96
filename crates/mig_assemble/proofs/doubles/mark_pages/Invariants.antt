use Rattle.std.proofs.Common.{List, ◌≡◌, ◌++◌, take, map}
use Rattle.mig_mem.specs.declared.place.Place.{Place}
use Rattle.mig_packet.specs.PacketHead.{offsets_in}
use Rattle.mig_assemble.specs.Seen.{HasSeen}
use Rattle.mig_assemble.proofs.PacketPlaces.{place_of}
use Rattle.mig_assemble.proofs.doubles.mark_pages.Given as goal

abbrev pub invariant-loop-i : goal.invariant-loop-i
invariant-loop-i g l = record {
  table : l.seen.table ≡ l.fn.seen.table;
  seen : (places : List Place) → HasSeen l.fn.seen.table places l.fn.seen l.fn.double
      → HasSeen l.fn.seen.table (places ++ map (place_of l.fn.seen.table l.block) (take l.i (offsets_in l.head.bytes.now))) l.seen l.double;
}
