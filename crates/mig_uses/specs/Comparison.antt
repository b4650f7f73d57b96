-- Whether two memories are equal.
use Rattle.std.specs.Prelude.{◌≡◌, ◌≢◌, find, Some}
use Rattle.mig_mem.specs.Image.{Image, differs}
use Rattle.mig_mem.specs.Place.{places}
use Rattle.mig_uses.specs.declared.comparison.Comparison.{Comparison}
use Rattle.mig_uses.specs.declared.comparison.Comparison.TheVariants.{Same, OtherTable, Differ}

-- the tables differ, or the memories are equal, or this is the first place where they differ
abbrev pub IsComparison : Image → Image → Comparison → Type 0
IsComparison a b OtherTable = a.table ≢ b.table
IsComparison a b Same = a ≡ b
IsComparison a b (Differ place) = (a.table ≡ b.table) × (find (differs a b) (places a.table) ≡ Some place)
