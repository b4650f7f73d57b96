use Rattle.std.proofs.Common.{◌≡◌, ◌+◌, ◌∙◌, [], List, sym, ap, map}
use Rattle.std.specs.List.{flat_map}
use Rattle.mig_mem.specs.Image.{Image}
use Rattle.mig_mem.specs.Round.{with_round}
use Rattle.mig_packet.specs.declared.packet.Packet.{Packet}
use Rattle.mig_packet.specs.Lent.{fields}
use Rattle.mig_assemble.specs.declared.judge.Placed.{Placed}
use Rattle.mig_assemble.specs.Judging.{packet_pages, all_round_pages, places_of}
use Rattle.mig_assemble.specs.NamedPlaces.{with_places}
use Rattle.mig_assemble.specs.Target.{LoadTarget, pages_of_round}
use Rattle.mig_assemble.specs.AtOnce.{packets_of}
use Rattle.mig_assemble.proofs.Lawful.{applied}
use Rattle.mig_assemble.proofs.AtOnce.{placed_sizes, placed_lawful}
use Rattle.mig_assemble.proofs.target.Target.round.Goals as goal

pub put_packets-requires-clause-page_sizes : goal.put_packets-requires-clause-page_sizes
put_packets-requires-clause-page_sizes g c =
    let same : (g.M.GuestTarget.image c.self-2.inside.memory).table ≡ c.args.self.now.memory.table =
    ap (λ (t : LoadTarget). t.memory.table) c.self-2.view_is ∙ ap (λ (m : Image). m.table) c.section.ensures.memory
    ∙ ap (λ (t : LoadTarget). t.memory.table) c.self.view_is in
    placed_sizes (g.M.GuestTarget.image c.self-2.inside.memory).table c.args.self.now.memory.table c.packets-packets.result.now c.args.gathered.now
    c.deref.result.now same c.packets-packets.ensures (ap (λ (l : List Placed). packets_of l) c.deref.ensures.value ∙ c.in_ok-placed.ensures.placed)
    c.requires.page_sizes

pub put_packets-requires-clause-lawful : goal.put_packets-requires-clause-lawful
put_packets-requires-clause-lawful g c =
    let same : (g.M.GuestTarget.image c.self-2.inside.memory).table ≡ c.self.inside.arrivals.seen.table =
    ap (λ (t : LoadTarget). t.memory.table) c.self-2.view_is ∙ ap (λ (m : Image). m.table) c.section.ensures.memory
    ∙ sym c.self.invariant.judges_table in
    placed_lawful (g.M.GuestTarget.image c.self-2.inside.memory).table c.self.inside.arrivals.seen.table c.self.inside.base
    (pages_of_round c.args.round.now) c.packets-packets.result.now c.deref.result.now same
    (ap (λ (l : List Placed). packets_of l) c.deref.ensures.value ∙ c.in_ok-placed.ensures.placed) c.in_ok-placed.ensures.lawful

pub name_packets-requires-clause-page_sizes : goal.name_packets-requires-clause-page_sizes
name_packets-requires-clause-page_sizes g c =
    let same : c.self-2.inside.named.table ≡ c.args.self.now.memory.table =
    c.self-2.invariant.same_table
    ∙ ap (λ (t : LoadTarget). t.memory.table) c.self-2.view_is ∙ ap (λ (m : Image). m.table) c.section.ensures.memory
    ∙ ap (λ (t : LoadTarget). t.memory.table) c.self.view_is in
    placed_sizes c.self-2.inside.named.table c.args.self.now.memory.table c.packets-packets.result.now c.args.gathered.now
    c.deref-2.result.now same c.packets-packets.ensures (ap (λ (l : List Placed). packets_of l) c.deref-2.ensures.value ∙ c.in_ok-placed.ensures.placed)
    c.requires.page_sizes

pub name_packets-requires-clause-lawful : goal.name_packets-requires-clause-lawful
name_packets-requires-clause-lawful g c =
    let same : c.self-2.inside.named.table ≡ c.self.inside.arrivals.seen.table =
    c.self-2.invariant.same_table
    ∙ ap (λ (t : LoadTarget). t.memory.table) c.self-2.view_is ∙ ap (λ (m : Image). m.table) c.section.ensures.memory
    ∙ sym c.self.invariant.judges_table in
    placed_lawful c.self-2.inside.named.table c.self.inside.arrivals.seen.table c.self.inside.base
    (pages_of_round c.args.round.now) c.packets-packets.result.now c.deref-2.result.now same
    (ap (λ (l : List Placed). packets_of l) c.deref-2.ensures.value ∙ c.in_ok-placed.ensures.placed) c.in_ok-placed.ensures.lawful

pub returns-clause-ok : goal.returns-clause-ok
returns-clause-ok g c =
    let here : LoadTarget = record {
      memory = g.M.GuestTarget.image c.self-2.inside.memory;
      named = c.self-2.inside.named;
      rounds = c.self-2.inside.rounds;
      base = c.self-2.inside.base;
    } in
    applied c.args.self.now here
    (g.M.GuestTarget.image c.put_packets.new.memory) c.name_packets.new.named c.args.round.now c.packets-packets.result.now
    c.args.gathered.now c.packets-packets.ensures
    (ap (λ (t : LoadTarget). t.memory) c.self-2.view_is ∙ c.section.ensures.memory
    ∙ ap (λ (t : LoadTarget). with_round t.memory (pages_of_round c.args.round.now)) c.self.view_is)
    (ap (λ (t : LoadTarget). t.named) c.self-2.view_is ∙ c.section.ensures.named
    ∙ ap (λ (t : LoadTarget). with_places t.named (places_of (pages_of_round c.args.round.now))) c.self.view_is)
    c.self-2.invariant.same_table
    (ap (λ (t : LoadTarget). t.rounds) c.self-2.view_is ∙ c.section.ensures.rounds ∙ ap (λ (t : LoadTarget). t.rounds + 1) c.self.view_is)
    (ap (λ (t : LoadTarget). t.base) c.self-2.view_is ∙ c.section.ensures.base ∙ ap (λ (t : LoadTarget). t.base) c.self.view_is)
    (c.put_packets.ensures
    ∙ ap (λ (l : List Packet). with_round here.memory (flat_map (packet_pages here.memory.table) (map fields l)))
    (ap (λ (l : List Placed). packets_of l) c.deref.ensures.value ∙ c.in_ok-placed.ensures.placed))
    (c.name_packets.ensures.named
    ∙ ap (λ (l : List Packet). with_places here.named (places_of (all_round_pages here.named.table [] (map fields l))))
    (ap (λ (l : List Placed). packets_of l) c.deref-2.ensures.value ∙ c.in_ok-placed.ensures.placed))
