-- Sets that have each page of a table.
use Rattle.std.proofs.Common.{◌≡◌, ◌+◌, Bool, true, false, List, [], ◌∷◌, length, arith, refl, sym, ap, ◌∙◌}
use Rattle.std.specs.Prelude.{not, IsTrue}
use Rattle.mig_mem.specs.declared.place.Place.{Place}
use Rattle.mig_mem.specs.RamTable.{total_pages}
use Rattle.mig_mem.specs.Place.{IsPlace, has_place}
use Rattle.mig_mem.specs.PlaceSet.{PlaceSet, IsPlaceSet, places_where}
use Rattle.mig_mem.proofs.Sets.{where_none, has_place-where}
use Rattle.mig_marking.proofs.Ascending.{lacking}

none_left : (ps : List Place) → length ps ≡ 0 → ps ≡ []
none_left [] e = refl
none_left (p ∷ ps) e = absurd (omega (arith, e))

not_false : (b : Bool) → not b ≡ false → b ≡ true
not_false true e = refl
not_false false e = sym e

-- A set has each page of its table exactly if it has as many places as the table has pages.
pub has_each : (s : PlaceSet) → IsPlaceSet s → length s.marked ≡ total_pages s.table.blocks → (p : Place) → IsPlace s.table p → IsTrue (has_place s.marked p)
has_each s is full p here =
    let others : List Place = places_where s.table (λ q. not (has_place s.marked q)) in
    let count : length others + length s.marked ≡ total_pages s.table.blocks = lacking s is in
    let none : others ≡ [] = none_left others (omega (arith, count, full)) in
    not_false (has_place s.marked p) (sym (has_place-where s.table (λ q. not (has_place s.marked q)) p here) ∙ ap (λ (l : List Place). has_place l p) none)

pub is_full : (s : PlaceSet) → IsPlaceSet s → ((p : Place) → IsPlace s.table p → IsTrue (has_place s.marked p)) → length s.marked ≡ total_pages s.table.blocks
is_full s is each =
    let others : List Place = places_where s.table (λ q. not (has_place s.marked q)) in
    let count : length others + length s.marked ≡ total_pages s.table.blocks = lacking s is in
    let none : others ≡ [] = where_none s.table (λ q. not (has_place s.marked q)) (λ p here. ap (λ (b : Bool). not b) (each p here)) in
    omega (arith, count, ap (λ (l : List Place). length l) none)
