-- The places where two memories differ.
use Rattle.mig_mem.specs.Image.{Image, differs}
use Rattle.mig_mem.specs.PlaceSet.{PlaceSet, places_where}

-- the set of the places of two memories' table where their contents differ
abbrev pub differing : Image → Image → PlaceSet
differing a b = record { table = a.table; marked = places_where a.table (differs a b) }
