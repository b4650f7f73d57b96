use Rattle.std.proofs.Common.{◌≡◌, [], take, map}
use Rattle.mig_packet.specs.Lent.{fields}
use Rattle.mig_assemble.specs.declared.judge.Placed.{Placed}
use Rattle.mig_assemble.specs.Judging.{all_round_pages, places_of}
use Rattle.mig_assemble.specs.NamedPlaces.{with_places}
use Rattle.mig_assemble.proofs.named.name_packets.Given as goal

abbrev pub invariant-loop-one : goal.invariant-loop-one
invariant-loop-one g l = record {
  table : l.named.table ≡ l.fn.named.table;
  named : l.named ≡ with_places l.fn.named
      (places_of (all_round_pages l.fn.named.table [] (map (λ (x : Placed). fields x.packet) (take l.one-index l.placed))));
}
