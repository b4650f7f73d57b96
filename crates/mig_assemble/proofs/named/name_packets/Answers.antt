use Rattle.std.proofs.Common.{◌∙◌, List, [], ap, sym, map}
use Rattle.std.proofs.lemmas.List.{take_all}
use Rattle.mig_mem.proofs.Members.{map-map}
use Rattle.mig_packet.specs.Packet.{Fields}
use Rattle.mig_packet.specs.Lent.{fields}
use Rattle.mig_assemble.specs.declared.judge.Placed.{Placed}
use Rattle.mig_assemble.specs.Judging.{all_round_pages, places_of}
use Rattle.mig_assemble.specs.NamedPlaces.{with_places}
use Rattle.mig_assemble.proofs.Naming.{packet_named}
use Rattle.mig_assemble.proofs.named.name_packets.Goals as goal

pub loop-one-preserved : goal.loop-one-preserved
loop-one-preserved g c = record {
  table = c.name_packet.ensures.table ∙ c.loop-one.invariant.table;
  named = packet_named (λ (x : Placed). fields x.packet) c.args.named.now c.loop-one.named c.name_packet.new.named
      c.args.placed.now c.loop-one.one-index c.one-item.result c.loop-one-test.true c.one-item.is
      c.loop-one.invariant.table c.name_packet.ensures.named c.loop-one.invariant.named;
}

pub returns-clause-named : goal.returns-clause-named
returns-clause-named g c =
    let table = c.args.named.now.table in
    let packet : Placed → Fields = λ x. fields x.packet in
    c.loop-one.invariant.named
    ∙ ap (λ (l : List Placed). with_places c.args.named.now (places_of (all_round_pages table [] (map packet l))))
    (take_all c.loop-one.one-index c.args.placed.now c.loop-one-test.false)
    ∙ ap (λ (l : List Fields). with_places c.args.named.now (places_of (all_round_pages table [] l)))
    (sym (map-map fields (λ (x : Placed). x.packet) c.args.placed.now))
