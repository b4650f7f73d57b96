use Rattle.std.proofs.Common.{rules, arith, false, ℕ, ◌≡◌, ◌<◌, ◌≤◌, ◌/◌, List, length, map, take, get_or, ap, sym, ◌∙◌, subst}
use Rattle.std.proofs.lemmas.List.{take_all}
use Rattle.mig_mem.specs.declared.place.Place.{Place}
use Rattle.mig_mem.specs.RamTable.{RamTable, block}
use Rattle.mig_mem.specs.Place.{IsPlace}
use Rattle.mig_mem.specs.PlaceSet.{PlaceSet}
use Rattle.mig_packet.specs.Packet.{Fields}
use Rattle.mig_packet.specs.PacketHead.{offsets_in, as_zeros}
use Rattle.mig_assemble.specs.Judging.{is_outside, pages_in, places_of}
use Rattle.mig_assemble.specs.NamedPlaces.{with_places}
use Rattle.mig_assemble.proofs.Naming.{offset_named}
use Rattle.mig_assemble.proofs.PacketPlaces.{place_of, place_inside, places-in}
use Rattle.mig_assemble.proofs.named.name_pages.Goals as goal

pub mark-requires : goal.mark-requires
mark-requires g c =
    let table = c.args.named.now.table in
    let all : List ℕ = offsets_in c.args.head.now.bytes.now in
    let within : c.loop-i.i < length all = omega arith in
    let inside : is_outside table.page_size (block table.blocks c.args.block).pages (get_or all c.loop-i.i 0) ≡ false = c.requires.lawful c.loop-i.i 0 within in
    let at : place_of table c.args.block (get_or all c.loop-i.i 0) ≡ record {
      block = c.args.block;
      page = c.offset.result / c.page_size.result;
    } = search rules in
    subst (λ (t : RamTable). IsPlace t (record { block = c.args.block; page = c.offset.result / c.page_size.result })) (sym c.loop-i.invariant.table)
    (subst (λ (p : Place). IsPlace table p) at (place_inside table c.args.block (get_or all c.loop-i.i 0) c.requires.block inside))

pub loop-i-preserved : goal.loop-i-preserved
loop-i-preserved g c =
    let table = c.args.named.now.table in
    let all : List ℕ = offsets_in c.args.head.now.bytes.now in
    let at : place_of table c.args.block (get_or all c.loop-i.i 0) ≡ record {
      block = c.args.block;
      page = c.offset.result / c.page_size.result;
    } = search rules in
    record {
      table = ap (λ (s : PlaceSet). s.table) c.mark.ensures.set ∙ c.loop-i.invariant.table;
      named = offset_named c.args.named.now c.loop-i.named c.mark.new.self (place_of table c.args.block) all c.loop-i.i _
          c.loop-i.invariant.named (omega arith) (sym at) c.mark.ensures.set;
    }

pub returns-clause-named : goal.returns-clause-named
returns-clause-named g c =
    let table = c.args.named.now.table in
    let q : Fields = as_zeros c.args.head.now.bytes.now in
    let past : length (offsets_in c.args.head.now.bytes.now) ≤ c.loop-i.i = omega arith in
    let all : map (place_of table c.args.block) (take c.loop-i.i (offsets_in c.args.head.now.bytes.now)) ≡ places_of (pages_in table q c.args.block) =
    ap (λ (l : List ℕ). map (place_of table c.args.block) l) (take_all c.loop-i.i (offsets_in c.args.head.now.bytes.now) past)
    ∙ sym (places-in table q c.args.block) in
    c.loop-i.invariant.named ∙ ap (λ (l : List Place). with_places c.args.named.now l) all
