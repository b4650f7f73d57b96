-- The pages that a load passed to a sink, and the memory that they make.
use Rattle.std.specs.Prelude.{◌≡◌, List}
use Rattle.mig_mem.specs.RamTable.{RamTable}
use Rattle.mig_mem.specs.Image.{Image, zero_image}
use Rattle.mig_stream.specs.PageRecord.{PageRecord}
use Rattle.zimgasol_reading.specs.Recorded.{with_records}

-- The sink has the table of this memory, and records that make it: written over zeros, in their
-- order, they leave exactly this memory.
pub record HasPassed (holds : RamTable → List PageRecord → Type 0) (memory : Image) : Type 0 where
  pub records : List PageRecord
  pub has_records : holds memory.table records
  pub make_memory : with_records (zero_image memory.table) records ≡ memory
