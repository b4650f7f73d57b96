use Rattle.std.proofs.Common.{◌≡◌, ◌+◌, ◌<◌, ◌/◌, ◌∙◌, ℕ, List, sym, ap, subst, arith}
use Rattle.mig_mem.specs.declared.place.Place.{Place}
use Rattle.mig_mem.specs.RamTable.{RamTable}
use Rattle.mig_mem.specs.Place.{IsPlace, place_at}
use Rattle.mig_mem.specs.PlaceSet.{with_place}
use Rattle.mig_packet.specs.Packet.{normal_count, zero_count, offset_at}
use Rattle.mig_in_place.proofs.Heads.{lies}
use Rattle.mig_apart.proofs.ClaimedPlaces.{nth, claimed_more}
use Rattle.mig_c_loads.proofs.filling.mark_normals.Goals as goal

pub mark-requires : goal.mark-requires
mark-requires c =
    let table : RamTable = c.args.filled.now.table in
    let head : List ℕ = c.args.head.now.bytes.now in
    let same : c.place.result ≡ nth table c.args.block head c.normals.i = c.place.ensures
    ∙ ap (λ (n : ℕ). place_at c.args.block (offset_at head c.normals.i / n)) c.requires.page_size in
    let low : c.normals.i < normal_count head + zero_count head = omega (arith, c.normals-test.true, c.normals.auto.i-end, c.normal_len-i-end.ensures) in
    subst (λ (t : RamTable). IsPlace t c.place.result) (sym c.normals.invariant.same_table)
    (subst (λ (p : Place). IsPlace table p) (sym same) (lies table c.args.block head c.requires.lies c.normals.i low))

pub normals-preserved : goal.normals-preserved
normals-preserved c =
    let table : RamTable = c.args.filled.now.table in
    let head : List ℕ = c.args.head.now.bytes.now in
    let same : c.place.result ≡ nth table c.args.block head c.normals.i = c.place.ensures
    ∙ ap (λ (n : ℕ). place_at c.args.block (offset_at head c.normals.i / n)) c.requires.page_size in
    claimed_more table (nth table c.args.block head) c.normals.i c.args.filled.now c.normals.filled c.mark.new.self
    (c.mark.ensures.set ∙ ap (λ (p : Place). with_place c.normals.filled p) same) c.normals.invariant
