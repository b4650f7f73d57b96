-- The pages of a guest that the records of its stream name.
use Rattle.std.specs.Prelude.{◌≡◌, List, [], map, Option, None, Some, IfSome, IsTrue, ⊤}
use Rattle.std.specs.List.{flat_map}
use Rattle.mig_mem.specs.declared.place.Place.{Place}
use Rattle.mig_mem.specs.Place.{IsPlace, has_place}
use Rattle.mig_mem.specs.RamTable.{RamTable}
use Rattle.mig_mem.specs.Image.{Image, zero_image}
use Rattle.mig_mem.specs.Round.{after, with_round, with_rounds}
use Rattle.mig_stream.specs.PageRecord.{PageRecord, page_of}
use Rattle.mig_assemble.specs.NamedPlaces.{HasPlaces}
use Rattle.zimgasol_reading.specs.declared.blocks.Blocks.{Blocks}

-- the records of all these sections
abbrev pub records_of : List (List PageRecord) → List PageRecord
records_of sections = flat_map (λ records. records) sections

-- the pages that these records name
abbrev pub pages_named : List PageRecord → List Place
pages_named records = map (λ r. r.place) records

-- one of these records names each page of the table
abbrev pub NameEachPage : Option RamTable → List PageRecord → Type 0
NameEachPage table records = IfSome table (λ t. (p : Place) → IsPlace t p → IsTrue (has_place (pages_named records) p))

-- In the blocks, exactly the pages of this table are marked that one of these records names.
abbrev pub AreNamed : RamTable → List PageRecord → Blocks → Type 0
AreNamed table records blocks = HasPlaces table (pages_named records) blocks.recorded

-- The blocks of a stream, once its table, if there is one, and then these records were taken.
abbrev pub AreCounted : Option Blocks → Option RamTable → List PageRecord → Type 0
AreCounted (Some blocks) (Some table) records = AreNamed table records blocks
AreCounted (Some blocks) None records = (records ≡ []) × (blocks.recorded.marked ≡ [])
AreCounted None (Some table) records = ⊥
AreCounted None None records = records ≡ []

-- ---- what takes the records

-- It still has what it had.
abbrev pub StillHolds : (RamTable → List PageRecord → Type 0) → (RamTable → List PageRecord → Type 0) → Type 0
StillHolds old new = (table : RamTable) (records : List PageRecord) → old table records → new table records

-- Nothing is known of it before it has the table.
abbrev pub HasTaken : (RamTable → List PageRecord → Type 0) → Option RamTable → List PageRecord → Type 0
HasTaken holds None records = ⊤
HasTaken holds (Some table) records = holds table records

-- The blocks are those of the records, and what takes the records has them.
abbrev pub AreCountedAndTaken : Option Blocks → (RamTable → List PageRecord → Type 0) → Option RamTable → List PageRecord → Type 0
AreCountedAndTaken blocks holds table records = AreCounted blocks table records × HasTaken holds table records

-- the memory after the pages of these records were written
abbrev pub with_records : Image → List PageRecord → Image
with_records image records = with_round image (map (page_of image.table.page_size) records)

-- the memory after the rounds of a stream
abbrev pub with_stream : Image → List (List PageRecord) → Image
with_stream image rounds = with_rounds image (map (map (page_of image.table.page_size)) rounds)

-- The records of a stream, written in their order, make the memory of its rounds, whatever was
-- there before.
abbrev pub RecordsMakeTheRounds : Type 0
RecordsMakeTheRounds = (image : Image) (rounds : List (List PageRecord)) → with_records image (records_of rounds) ≡ with_stream image rounds

-- Over zeros the rounds of a stream make the memory of a load.
abbrev pub StreamsOverZerosMakeLoads : Type 0
StreamsOverZerosMakeLoads = (table : RamTable) (rounds : List (List PageRecord))
    → with_stream (zero_image table) rounds ≡ after table (map (map (page_of table.page_size)) rounds)
