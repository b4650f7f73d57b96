-- Blocks of C that were zeros when a load began, and which of their pages may hold something else.
use Rattle.std.specs.Prelude.{ℕ, ◌≡◌, Bool, true, false, List, [], Option, None, Some, ⊤}
use Rattle.mig_mem.specs.declared.place.Place.{Place}
use Rattle.mig_mem.specs.RamTable.{RamTable}
use Rattle.mig_mem.specs.PlaceSet.{PlaceSet, with_place}
use Rattle.mig_mem.specs.Lent.{FitTable, lent_image}
use Rattle.mig_marking.specs.Fresh.{AreZeros}

-- a load into blocks of C, and the pages that may hold something else than zeros, if C said that
-- its blocks were zeros
pub record Into (L : Type 0) : Type 0 where
  pub load : L
  pub filled : Option PlaceSet

-- Blocks that fit the table are zeros but for these pages. If there is no set they may hold
-- anything.
abbrev pub AreZerosBut : Option PlaceSet → List (List ℕ) → Type 0
AreZerosBut None blocks = ⊤
AreZerosBut (Some filled) blocks = FitTable filled.table blocks → AreZeros (lent_image filled.table blocks) filled

-- at first no page does, if C says that the blocks are zeros
abbrev pub filled_at_first : Bool → RamTable → Option PlaceSet
filled_at_first true table = Some (record { table = table; marked = [] })
filled_at_first false table = None

abbrev pub IsFilledAtFirst : Bool → Option RamTable → Option PlaceSet → Type 0
IsFilledAtFirst zeros None filled = ⊤
IsFilledAtFirst zeros (Some table) filled = filled ≡ filled_at_first zeros table

-- with a page that was written, if one was
abbrev pub with_filled : Option Place → Option PlaceSet → Option PlaceSet
with_filled (Some place) (Some filled) = Some (with_place filled place)
with_filled place filled = filled
