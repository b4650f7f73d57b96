-- The file of a guest's memory: the bytes of its pages, block after block in the table's order.
use Rattle.std.specs.Prelude.{ℕ, ◌≡◌, ◌+◌, ◌*◌, ◌==◌, List, length, take, Option, None, Some, if◌then◌else◌}
use Rattle.std.specs.List.{flat_map}
use Rattle.mig_mem.specs.declared.place.Place.{Place}
use Rattle.mig_mem.specs.RamTable.{RamTable, Block, total_pages}
use Rattle.mig_mem.specs.Place.{block_places, places}
use Rattle.mig_mem.specs.Parts.{part_at}
use Rattle.mig_mem.specs.Image.{Image, IsImage, image_of, content_at}

-- ---- what is written

-- the bytes of a memory's file: the content of each place of its table, in the order of the places
abbrev pub image_bytes : Image → List ℕ
image_bytes m = flat_map (content_at m) (places m.table)

-- the bytes of one block in it
abbrev pub block_bytes : Image → ℕ → List ℕ
block_bytes m b = flat_map (content_at m) (block_places m.table.blocks b)

-- ---- what is read

-- how many pages stand before a place in the file
abbrev pub pages_before : List Block → Place → ℕ
pages_before blocks p = total_pages (take p.block blocks) + p.page

-- how many bytes the file of a table has
abbrev pub file_len : RamTable → ℕ
file_len table = total_pages table.blocks * table.page_size

-- the memory whose file has these bytes
abbrev pub file_image : RamTable → List ℕ → Image
file_image table bytes = image_of table (λ p. part_at table.page_size bytes (pages_before table.blocks p))

-- what is read of a file's bytes: the memory, or none if there are more or fewer bytes than the
-- blocks have
abbrev pub memory_in : RamTable → List ℕ → Option Image
memory_in table bytes = if length bytes == file_len table then Some (file_image table bytes) else None

-- the memory with the pages of a block that stand at the beginning of these bytes
abbrev pub with_block : Image → ℕ → List ℕ → Image
with_block m b bytes = image_of m.table (λ p. if p.block == b then part_at m.table.page_size bytes p.page else content_at m p)

-- ---- what relates them

-- The bytes that are written of a memory are read as that memory.
abbrev pub ImageIsReadBack : Type 0
ImageIsReadBack = (m : Image) → IsImage m → memory_in m.table (image_bytes m) ≡ Some m

-- A memory that was read of a file's bytes is written as these bytes. So no two files are read as
-- one memory.
abbrev pub FileIsWrittenBack : Type 0
FileIsWrittenBack = (table : RamTable) (bytes : List ℕ) (m : Image) → memory_in table bytes ≡ Some m → image_bytes m ≡ bytes
