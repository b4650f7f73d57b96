use Rattle.std.proofs.Common.{◌≡◌, ◌∙◌, [], List, map, sym, ap}
use Rattle.mig_mem.specs.declared.putting.RoundPage.{RoundPage}
use Rattle.mig_mem.specs.RamTable.{RamTable}
use Rattle.mig_mem.specs.Image.{Page}
use Rattle.mig_mem.specs.Round.{with_round}
use Rattle.mig_mem.specs.Puts.{round_page}
use Rattle.mig_packet.specs.declared.packet.Packet.{Packet}
use Rattle.mig_packet.specs.Lent.{fields}
use Rattle.mig_assemble.specs.declared.judge.Placed.{Placed}
use Rattle.mig_assemble.specs.Judging.{all_round_pages, places_of}
use Rattle.mig_assemble.specs.NamedPlaces.{with_places}
use Rattle.mig_assemble.specs.Target.{LoadTarget, pages_of_round, after_round}
use Rattle.mig_assemble.specs.AtOnce.{packets_of}
use Rattle.mig_assemble.proofs.Lawful.{each_lies_right}
use Rattle.mig_assemble.proofs.AtOnce.{placed_sizes, placed_lawful}
use Rattle.mig_assemble.proofs.RoundLists.{listed}
use Rattle.mig_assemble.proofs.target.Target+A.round_by.Goals as goal

pub round_list-requires-clause-lawful : goal.round_list-requires-clause-lawful
round_list-requires-clause-lawful g c =
    let same : c.table.result.now ≡ c.self.inside.arrivals.seen.table = c.table.ensures.value ∙ sym c.self.invariant.judges_table in
    rw same (each_lies_right c.self.inside.arrivals.seen.table c.self.inside.base
    (pages_of_round c.args.round.now) c.packets-packets.result.now c.in_ok-placed.ensures.lawful)

pub name_packets-requires-clause-page_sizes : goal.name_packets-requires-clause-page_sizes
name_packets-requires-clause-page_sizes g c =
    let same : c.name_records.new.named.table ≡ c.args.self.now.memory.table =
    c.name_records.ensures.table ∙ c.self.invariant.same_table ∙ ap (λ (t : LoadTarget). t.memory.table) c.self.view_is in
    placed_sizes c.name_records.new.named.table c.args.self.now.memory.table c.packets-packets.result.now c.args.gathered.now
    c.deref.result.now same c.packets-packets.ensures (ap (λ (l : List Placed). packets_of l) c.deref.ensures.value ∙ c.in_ok-placed.ensures.placed)
    c.requires.page_sizes

pub name_packets-requires-clause-lawful : goal.name_packets-requires-clause-lawful
name_packets-requires-clause-lawful g c =
    let same : c.name_records.new.named.table ≡ c.self.inside.arrivals.seen.table =
    c.name_records.ensures.table ∙ c.self.invariant.same_table ∙ sym c.self.invariant.judges_table in
    placed_lawful c.name_records.new.named.table c.self.inside.arrivals.seen.table c.self.inside.base
    (pages_of_round c.args.round.now) c.packets-packets.result.now c.deref.result.now same
    (ap (λ (l : List Placed). packets_of l) c.deref.ensures.value ∙ c.in_ok-placed.ensures.placed) c.in_ok-placed.ensures.lawful

pub returns-clause-ok : goal.returns-clause-ok
returns-clause-ok g c =
    let p = c.self.inside in
    let here : LoadTarget = record { memory = p.memory; named = p.named; rounds = p.rounds; base = p.base } in
    let list : List RoundPage = c.in_ok-pages.pages.items in
    let table : RamTable = c.table.result.now in
    let put : c.put_pages.new.self ≡ with_round p.memory (map (round_page p.memory.table.page_size) list) =
    c.put_pages.ensures ∙ ap (λ (l : List RoundPage). with_round p.memory (map (round_page p.memory.table.page_size) l)) c.as_slice.ensures.value in
    listed here c.put_pages.new.self c.name_records.new.named c.name_packets.new.named c.args.round.now
    c.packets-packets.result.now c.args.gathered.now c.packets-packets.ensures
    (put ∙ ap (λ (l : List Page). with_round p.memory l) (rw (← c.table.ensures.value) c.in_ok-pages.ensures.stands_for))
    c.self.invariant.same_table c.name_records.ensures.named c.name_records.ensures.table
    (c.name_packets.ensures.named
    ∙ ap (λ (l : List Packet). with_places c.name_records.new.named (places_of (all_round_pages c.name_records.new.named.table [] (map fields l))))
    (ap (λ (l : List Placed). packets_of l) c.deref.ensures.value ∙ c.in_ok-placed.ensures.placed))
    ∙ ap (λ (s : LoadTarget). after_round s c.args.round.now (map fields c.args.gathered.now)) c.self.view_is
