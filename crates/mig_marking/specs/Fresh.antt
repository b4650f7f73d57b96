-- Guest memory that was zeros: each page that wasn't written with a content is zeros still.
use Rattle.std.specs.Prelude.{◌≡◌, false}
use Rattle.mig_mem.specs.declared.place.Place.{Place}
use Rattle.mig_mem.specs.Place.{IsPlace, has_place}
use Rattle.mig_mem.specs.PlaceSet.{PlaceSet}
use Rattle.mig_mem.specs.Image.{Image, content_at, zero_page}

-- the set is of the memory's table, and each page outside it is zeros
pub record AreZeros (memory : Image) (written : PlaceSet) : Type 0 where
  pub same_table : written.table ≡ memory.table
  pub are_zeros : (p : Place) → IsPlace memory.table p → has_place written.marked p ≡ false → content_at memory p ≡ zero_page memory.table.page_size
