-- Laws of the definitions alone.
use Rattle.std.specs.Prelude.{ℕ, ◌≡◌, ◌<◌, ◌≤◌, ◌^◌, List, None}
use Rattle.mig_mem.specs.PageSize.{IsPageSize}
use Rattle.mig_mem.specs.RamTable.{IsTable}
use Rattle.mig_mem.specs.Image.{IsImage}
use Rattle.mig_mapped.specs.declared.settings.MappedSettings.{MappedSettings}
use Rattle.mig_mapped.specs.Block.{table_of, memory_in}
use Rattle.mig_mapped.specs.Reading.{MappedReading, IsMappedReading}

-- A file has a reading, and no other.
abbrev pub HasOneMappedReading : Type 0
HasOneMappedReading = (given : MappedSettings) (place total : ℕ) (file : List ℕ)
    → (reading : MappedReading) × IsMappedReading given place total file reading
    × ((other : MappedReading) → IsMappedReading given place total file other → other ≡ reading)

-- A file without a fault stands for a memory of a lawful table.
abbrev pub FaultlessIsMemory : Type 0
FaultlessIsMemory = (given : MappedSettings) (place total : ℕ) (file : List ℕ) (reading : MappedReading)
    → IsPageSize given.page_size → 0 < total → total ≤ 2 ^ 40
    → IsMappedReading given place total file reading → reading.fault ≡ None
    → IsTable (table_of given.page_size reading.blocks) × IsImage (memory_in given file reading.blocks)
