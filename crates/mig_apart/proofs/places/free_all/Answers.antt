use Rattle.std.proofs.Common.{◌≡◌, ◌+◌, ◌<◌, ◌/◌, ◌∙◌, ℕ, List, sym, ap, subst, arith}
use Rattle.mig_mem.specs.declared.place.Place.{Place}
use Rattle.mig_mem.specs.RamTable.{RamTable}
use Rattle.mig_mem.specs.Place.{IsPlace, place_at}
use Rattle.mig_mem.specs.PlaceSet.{without_place}
use Rattle.mig_packet.specs.Packet.{normal_count, zero_count, offset_at}
use Rattle.mig_in_place.proofs.Heads.{lies}
use Rattle.mig_apart.proofs.ClaimedPlaces.{nth, freed_more}
use Rattle.mig_apart.proofs.places.free_all.Goals as goal

pub unmark-requires : goal.unmark-requires
unmark-requires g c =
    let table : RamTable = c.args.claimed.now.table in
    let head : List ℕ = c.args.head.now.bytes.now in
    let same : c.place.result ≡ nth table c.args.block head c.places.i = c.place.ensures
    ∙ ap (λ (n : ℕ). place_at c.args.block (offset_at head c.places.i / n)) c.requires.page_size in
    let low : c.places.i < normal_count head + zero_count head =
    omega (arith, c.places-test.true, c.places.auto.i-end, c.normal_len.ensures, c.zero_len.ensures) in
    subst (λ (t : RamTable). IsPlace t c.place.result) (sym c.places.invariant.same_table)
    (subst (λ (p : Place). IsPlace table p) (sym same) (lies table c.args.block head c.requires.lies c.places.i low))

pub places-preserved : goal.places-preserved
places-preserved g c =
    let table : RamTable = c.args.claimed.now.table in
    let head : List ℕ = c.args.head.now.bytes.now in
    let same : c.place.result ≡ nth table c.args.block head c.places.i = c.place.ensures
    ∙ ap (λ (n : ℕ). place_at c.args.block (offset_at head c.places.i / n)) c.requires.page_size in
    freed_more table (nth table c.args.block head) c.places.i c.args.claimed.now c.places.claimed c.unmark.new.self
    (c.unmark.ensures ∙ ap (λ (p : Place). without_place c.places.claimed p) same) c.places.invariant
