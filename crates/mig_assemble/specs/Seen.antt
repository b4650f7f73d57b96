-- Places that are marked one after another, and the least that occurs twice among them.
use Rattle.std.specs.Prelude.{◌≡◌, List, ◌++◌, Option}
use Rattle.mig_mem.specs.declared.place.Place.{Place}
use Rattle.mig_mem.specs.RamTable.{RamTable}
use Rattle.mig_mem.specs.Place.{place_eq, place_lt, has_place}
use Rattle.mig_mem.specs.PlaceSet.{PlaceSet, places_where}
use Rattle.mig_assemble.specs.Judging.{least, twice}

-- Each place of a list is marked, and no other, and the least that occurs twice is known, if one
-- does.
pub record HasSeen (table : RamTable) (places : List Place) (seen : PlaceSet) (double : Option Place) : Type 0 where
  pub marks : seen ≡ record { table = table; marked = places_where table (has_place places) }
  pub least : double ≡ least place_lt (twice place_eq places)

-- these places are seen, after those seen before
abbrev pub SeesMore : List Place → PlaceSet → Option Place → PlaceSet → Option Place → Type 0
SeesMore more old before new after =
    (places : List Place) → HasSeen old.table places old before → HasSeen old.table (places ++ more) new after
