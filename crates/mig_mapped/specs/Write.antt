-- The writer of a file: where the parts of its blocks lie, which bytes they are, and which memory a
-- file with these parts stands for. QEMU: `mapped_ram_setup_ramblock` in `migration/ram.c`.
use Rattle.std.specs.Prelude.{ℕ, ◌≡◌, ◌+◌, ◌-◌, ◌*◌, ◌/◌, ◌<◌, ◌≤◌, ◌==◌, Bool, false, true, List, ◌++◌, length, replicate, slice_range, None, if◌then◌else◌, ⊤}
use Rattle.mig_mem.specs.declared.place.Place.{Place}
use Rattle.mig_mem.specs.Place.{IsPlace, place_eq}
use Rattle.mig_mem.specs.RamTable.{Block, RamTable, IsTable}
use Rattle.mig_mem.specs.Image.{Image, IsImage, content_at, zero_page}
use Rattle.mig_stream.specs.Fields.{be32, be64}
use Rattle.mig_stream.specs.Text.{entry, total_bytes}
use Rattle.mig_mapped.specs.declared.fault.MappedFault.TheVariants.{PagesOffset}
use Rattle.mig_mapped.specs.declared.fault.MappedStop.{MappedStop}
use Rattle.mig_mapped.specs.declared.fault.MappedStop.TheVariants as stop
use Rattle.mig_mapped.specs.declared.settings.WordOrder.{WordOrder}
use Rattle.mig_mapped.specs.declared.settings.MappedSettings.{MappedSettings}
use Rattle.mig_mapped.specs.Bitmap.{is_set, bitmap_len}
use Rattle.mig_mapped.specs.Block.{MappedBlock, ram_block, table_of, mapped_block, page_offset, end_of, memory_in}
use Rattle.mig_mapped.specs.Head.{header_version, header_len, most_file_bytes}
use Rattle.mig_mapped.specs.Reading.{IsMappedReading}

-- A file that is written: what isn't in it, the offset of its first head, and its blocks, each with
-- the bits of the pages that were written.
pub record MappedWriting : Type 0 where
  pub given : MappedSettings
  pub place : ℕ
  pub blocks : List MappedBlock

abbrev pub written_table : MappedWriting → RamTable
written_table w = table_of w.given.page_size w.blocks

-- ---- where its parts lie

-- the offset of a block's head: that of the first one, or the end of the pages before it
abbrev pub head_offset : MappedWriting → ℕ → ℕ
head_offset w i = if i == 0 then w.place else end_of w.given.page_size (mapped_block w.blocks (i - 1))

-- the offset after the last block's pages
abbrev pub end_offset : MappedWriting → ℕ
end_offset w = head_offset w (length w.blocks)

-- how many bytes a block's entry and header have
abbrev pub head_len : List ℕ → ℕ
head_len id = 9 + length id + header_len

-- the offset of a block's bitmap
abbrev pub bitmap_offset : MappedWriting → ℕ → ℕ
bitmap_offset w i = head_offset w i + head_len (mapped_block w.blocks i).id

-- the offset of a page
abbrev pub offset_at : MappedWriting → Place → ℕ
offset_at w p = page_offset w.given.page_size (mapped_block w.blocks p.block) p.page

-- MAPPED_RAM_FILE_OFFSET_ALIGNMENT: the first pages of blocks lie at multiples of it
abbrev pub pages_alignment : ℕ
pages_alignment = 0x100000

-- the first multiple of it that isn't before an offset
abbrev pub aligned : ℕ → ℕ
aligned offset = (offset + (pages_alignment - 1)) / pages_alignment * pages_alignment

-- A block's bitmap has a bit for each page. Its pages follow, at the next multiple of 1 MiB.
pub record IsLaid (w : MappedWriting) (i : ℕ) : Type 0 where
  pub has_bitmap : length (mapped_block w.blocks i).bitmap ≡ bitmap_len (mapped_block w.blocks i).pages
  pub has_pages : (mapped_block w.blocks i).pages_at ≡ aligned (bitmap_offset w i + bitmap_len (mapped_block w.blocks i).pages)

abbrev pub AreLaid : MappedWriting → Type 0
AreLaid w = (i : ℕ) → i < length w.blocks → IsLaid w i

-- ---- the bytes of its parts

-- a block's entry and the header after it
abbrev pub head_bytes : MappedWriting → ℕ → List ℕ
head_bytes w i =
    entry w.given.page_size (ram_block (mapped_block w.blocks i))
    ++ be32 header_version
    ++ be64 w.given.page_size
    ++ be64 (bitmap_offset w i)
    ++ be64 (mapped_block w.blocks i).pages_at

-- a page's bit is set
abbrev pub has_bit : MappedWriting → Place → Bool
has_bit w p = is_set w.given.order (mapped_block w.blocks p.block).bitmap p.page

-- A writer that was just created, whose first head is at this offset. No bit is set.
pub record IsBegun (order : WordOrder) (place : ℕ) (table : RamTable) (w : MappedWriting) : Type 0 where
  pub has_given : w.given ≡ record { page_size = table.page_size; order = order }
  pub has_place : w.place ≡ place
  pub has_table : written_table w ≡ table
  pub are_laid : AreLaid w
  pub none_set : (p : Place) → has_bit w p ≡ false

-- Why there is no writer: an allocation was refused, or the pages would end where no file has
-- bytes.
abbrev pub IsRefused : WordOrder → ℕ → RamTable → MappedStop → Type 0
IsRefused order place table (stop.Fault fault) =
    (fault ≡ PagesOffset) × ((w : MappedWriting) → IsBegun order place table w → most_file_bytes ≤ end_offset w)
IsRefused order place table stop.NoMemory = ⊤

-- The bit of one page is set or cleared, and nothing else has changed.
pub record PutsBit (old : MappedWriting) (p : Place) (bit : Bool) (new : MappedWriting) : Type 0 where
  pub same_given : new.given ≡ old.given
  pub same_place : new.place ≡ old.place
  pub same_table : written_table new ≡ written_table old
  pub same_offsets : (i : ℕ) → (mapped_block new.blocks i).pages_at ≡ (mapped_block old.blocks i).pages_at
  pub bits : (q : Place) → has_bit new q ≡ (if place_eq q p then bit else has_bit old q)

-- ---- the memory

-- The writer was passed the pages of this memory: those whose bits aren't set are zeros.
pub record StandsFor (w : MappedWriting) (m : Image) : Type 0 where
  pub is_image : IsImage m
  pub same_table : m.table ≡ written_table w
  pub are_zeros : (p : Place) → IsPlace m.table p → has_bit w p ≡ false → content_at m p ≡ zero_page m.table.page_size

-- the file has these bytes at an offset
abbrev pub HasAt : List ℕ → ℕ → List ℕ → Type 0
HasAt file offset bytes = slice_range file offset (offset + length bytes) ≡ bytes

-- A file has the parts of each block at their offsets, and each page of the memory whose bit is
-- set. It may have any bytes in the gaps and at the other pages' offsets.
pub record HasParts (w : MappedWriting) (m : Image) (file : List ℕ) : Type 0 where
  pub heads : (i : ℕ) → i < length w.blocks → HasAt file (head_offset w i) (head_bytes w i)
  pub bitmaps : (i : ℕ) → i < length w.blocks → HasAt file (bitmap_offset w i) (mapped_block w.blocks i).bitmap
  pub pages : (p : Place) → IsPlace m.table p → has_bit w p ≡ true → HasAt file (offset_at w p) (content_at m p)
  pub has_end : end_offset w ≤ length file

-- Each file with these parts is read without a fault, has these blocks, and stands for the memory.
abbrev pub PartsAreRead : MappedWriting → Type 0
PartsAreRead w = (m : Image) (file : List ℕ) → StandsFor w m → HasParts w m file
    → IsMappedReading w.given w.place (total_bytes (written_table w)) file (record { blocks = w.blocks; fault = None })
    × (memory_in w.given file w.blocks ≡ m)

-- There is a file with these parts, whatever the memory: they don't overlap.
abbrev pub HasAFile : MappedWriting → Type 0
HasAFile w = (m : Image) → StandsFor w m → (file : List ℕ) × HasParts w m file

-- ---- how the code keeps it, which only private contracts cite

-- the bit of one page of a block is set or cleared
pub record PutsBlockBit (order : WordOrder) (old : MappedBlock) (page : ℕ) (bit : Bool) (new : MappedBlock) : Type 0 where
  pub same_id : new.id ≡ old.id
  pub same_pages : new.pages ≡ old.pages
  pub same_offset : new.pages_at ≡ old.pages_at
  pub same_len : length new.bitmap ≡ length old.bitmap
  pub bits : (q : ℕ) → is_set order new.bitmap q ≡ (if q == page then bit else is_set order old.bitmap q)

-- a block of a table whose head is at this offset, without a bit
abbrev pub laid_block : Block → ℕ → MappedBlock
laid_block b offset = record {
  id = b.id;
  pages = b.pages;
  bitmap = replicate (bitmap_len b.pages) 0;
  pages_at = aligned (offset + head_len b.id + bitmap_len b.pages);
}

-- the invariant of a writer
pub record IsWriting (w : MappedWriting) : Type 0 where
  pub is_table : IsTable (written_table w)
  pub are_laid : AreLaid w
  pub no_tails : (i q : ℕ) → i < length w.blocks → (mapped_block w.blocks i).pages ≤ q → is_set w.given.order (mapped_block w.blocks i).bitmap q ≡ false
  pub has_offsets : (i : ℕ) → i ≤ length w.blocks → head_offset w i < most_file_bytes
