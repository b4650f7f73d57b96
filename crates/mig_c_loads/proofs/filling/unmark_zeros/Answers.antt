use Rattle.std.proofs.Common.{◌≡◌, ◌+◌, ◌<◌, ◌/◌, ◌∙◌, ℕ, List, sym, ap, subst, arith}
use Rattle.mig_mem.specs.declared.place.Place.{Place}
use Rattle.mig_mem.specs.RamTable.{RamTable}
use Rattle.mig_mem.specs.Place.{IsPlace, place_at}
use Rattle.mig_mem.specs.PlaceSet.{without_place}
use Rattle.mig_packet.specs.Packet.{normal_count, zero_count, offset_at}
use Rattle.mig_in_place.proofs.Heads.{lies}
use Rattle.mig_apart.proofs.ClaimedPlaces.{nth, freed_more}
use Rattle.mig_c_loads.proofs.filling.unmark_zeros.Goals as goal

pub unmark-requires : goal.unmark-requires
unmark-requires c =
    let table : RamTable = c.args.filled.now.table in
    let head : List ℕ = c.args.head.now.bytes.now in
    let at : ℕ = normal_count head + c.zeros.i in
    let same : c.place.result ≡ nth table c.args.block head at =
    c.place.ensures ∙ ap (λ (n : ℕ). place_at c.args.block (offset_at head (n + c.zeros.i) / c.args.head.now.page_size)) c.normal_len-normals.ensures
    ∙ ap (λ (n : ℕ). place_at c.args.block (offset_at head at / n)) c.requires.page_size in
    let low : at < normal_count head + zero_count head = omega (arith, c.zeros-test.true, c.zeros.auto.i-end, c.zero_len-i-end.ensures) in
    subst (λ (t : RamTable). IsPlace t c.place.result) (sym c.zeros.invariant.same_table)
    (subst (λ (p : Place). IsPlace table p) (sym same) (lies table c.args.block head c.requires.lies at low))

pub zeros-preserved : goal.zeros-preserved
zeros-preserved c =
    let table : RamTable = c.args.filled.now.table in
    let head : List ℕ = c.args.head.now.bytes.now in
    let at : ℕ = normal_count head + c.zeros.i in
    let same : c.place.result ≡ nth table c.args.block head at =
    c.place.ensures ∙ ap (λ (n : ℕ). place_at c.args.block (offset_at head (n + c.zeros.i) / c.args.head.now.page_size)) c.normal_len-normals.ensures
    ∙ ap (λ (n : ℕ). place_at c.args.block (offset_at head at / n)) c.requires.page_size in
    freed_more table (λ i. nth table c.args.block head (normal_count head + i)) c.zeros.i c.args.filled.now c.zeros.filled
    c.unmark.new.self (c.unmark.ensures ∙ ap (λ (p : Place). without_place c.zeros.filled p) same) c.zeros.invariant
