-- The places that rounds named: a set that grows by the places of each round, and the pages that
-- none named.
use Rattle.std.specs.Prelude.{ℕ, ◌≡◌, List, [], ◌∷◌, ◌++◌, flat_map, length, not}
use Rattle.mig_mem.specs.declared.place.Place.{Place}
use Rattle.mig_mem.specs.Place.{has_place}
use Rattle.mig_mem.specs.RamTable.{RamTable}
use Rattle.mig_mem.specs.Image.{Page}
use Rattle.mig_mem.specs.PlaceSet.{PlaceSet, places_where, with_place}
use Rattle.mig_assemble.specs.Judging.{places_of}
use Rattle.mig_assemble.specs.Arrivals.{Arrival, RoundSoFar, HasCome, pages_that_came}

-- The set has each place of a list that is the table's, and no other.
abbrev pub HasPlaces : RamTable → List Place → PlaceSet → Type 0
HasPlaces table places s = s ≡ record { table = table; marked = places_where table (has_place places) }

-- the places of all pages of some rounds
abbrev pub places_in : List (List Page) → List Place
places_in rounds = flat_map places_of rounds

-- the set of the places of a table that some rounds name
abbrev pub named_by : RamTable → List (List Page) → PlaceSet
named_by table rounds = record { table = table; marked = places_where table (has_place (places_in rounds)) }

-- how many pages of a table aren't among some places
abbrev pub left_out : RamTable → List Place → ℕ
left_out table places = length (places_where table (λ p. not (has_place places p)))

-- how many pages of a table some rounds don't name
abbrev pub missing_of : RamTable → List (List Page) → ℕ
missing_of table rounds = left_out table (places_in rounds)

-- the set with places added, one after another
abbrev pub with_places : PlaceSet → List Place → PlaceSet
with_places s [] = s
with_places s (p ∷ ps) = with_places (with_place s p) ps

-- these places were added, to those before
abbrev pub AddsPlaces : List Place → PlaceSet → PlaceSet → Type 0
AddsPlaces more old new = (table : RamTable) (places : List Place) → HasPlaces table places old → HasPlaces table (places ++ more) new

-- The places of all that arrived of a round were added, to those before.
abbrev pub AddsArrivals : RoundSoFar → PlaceSet → PlaceSet → Type 0
AddsArrivals r old new = (table : RamTable) (places : List Place) (came : List Arrival) → HasCome table came r → HasPlaces table places old
    → HasPlaces table (places ++ places_of (pages_that_came table came)) new
