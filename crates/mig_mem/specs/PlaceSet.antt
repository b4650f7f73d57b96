-- A set of a table's places: the list of them, ascending.
use Rattle.std.specs.Prelude.{ℕ, ◌≡◌, ◌<◌, ◌≤◌, List, All, Bool, true, false, not, ◌||◌, ◌&&◌}
use Rattle.std.specs.List.{filter}
use Rattle.mig_mem.specs.declared.place.Place.{Place}
use Rattle.mig_mem.specs.RamTable.{RamTable, IsTable}
use Rattle.mig_mem.specs.Place.{place_at, place_eq, IsPlace, IsAscending, has_place, places}

pub record PlaceSet : Type 0 where
  pub table : RamTable
  pub marked : List Place

pub record IsPlaceSet (s : PlaceSet) : Type 0 where
  pub has_table : IsTable s.table
  pub is_within : All (IsPlace s.table) s.marked
  pub is_ascending : IsAscending s.marked

-- the places of a table that pass a test
unfoldable pub places_where : RamTable → (Place → Bool) → List Place
places_where table test = filter test (places table)

-- The set with a place added, which may be there already. A place outside the table isn't added.
abbrev pub with_place : PlaceSet → Place → PlaceSet
with_place s p = record s { marked = places_where s.table (λ q. place_eq q p || has_place s.marked q) }

-- the set without a place, which may not be in it
abbrev pub without_place : PlaceSet → Place → PlaceSet
without_place s p = record s { marked = places_where s.table (λ q. has_place s.marked q && not (place_eq q p)) }

-- the first page of a block in the set, from a page on
pub record IsFirstIn (s : PlaceSet) (b from page : ℕ) : Type 0 where
  pub low : from ≤ page
  pub has : has_place s.marked (place_at b page) ≡ true
  pub before : (q : ℕ) → from ≤ q → q < page → has_place s.marked (place_at b q) ≡ false
