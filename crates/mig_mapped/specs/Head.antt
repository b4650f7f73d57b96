-- The head of a block: its entry in the size list, the header of mapped-ram after it, and its
-- bitmap. QEMU: `MappedRamHeader`, `mapped_ram_setup_ramblock` and `parse_ramblock_mapped_ram` in
-- `migration/ram.c`.
use Rattle.std.specs.Prelude.{ℕ, ◌+◌, ◌-◌, ◌*◌, ◌/◌, ◌%◌, ◌^◌, Bool, not, ◌||◌, nat_lt, nat_le, ◌==◌, List, [], ◌∷◌, ◌++◌, length, slice_index, slice_range, Option}
use Rattle.std.specs.Option.{option_or}
use Rattle.std.specs.List.{list_any}
use Rattle.std.specs.Str.{bytes_eq}
use Rattle.mig_mem.specs.First.{first_of}
use Rattle.mig_mem.specs.RamTable.{is_id, max_blocks}
use Rattle.mig_stream.specs.Fields.{be32_at, be64_at}
use Rattle.mig_stream.specs.Items.{id_in, length_in}
use Rattle.mig_mapped.specs.declared.fault.MappedFault.{MappedFault}
use Rattle.mig_mapped.specs.declared.fault.MappedFault.TheVariants as fault
use Rattle.mig_mapped.specs.declared.settings.MappedSettings.{MappedSettings}
use Rattle.mig_mapped.specs.Bitmap.{bitmap_len, has_tail}
use Rattle.mig_mapped.specs.Block.{MappedBlock, end_of}

-- How far the size list of a file has been read: what isn't in the file, the offset of the next
-- block's head, how many bytes of the list's total no entry has yet, and the blocks so far.
pub record MappedProgress : Type 0 where
  pub given : MappedSettings
  pub place : ℕ
  pub left : ℕ
  pub blocks : List MappedBlock

-- before the first entry, which is at this offset
abbrev pub start : MappedSettings → ℕ → ℕ → MappedProgress
start given place total = record { given = given; place = place; left = total; blocks = [] }

-- MAPPED_RAM_HDR_VERSION
abbrev pub header_version : ℕ
header_version = 1

-- sizeof(MappedRamHeader)
abbrev pub header_len : ℕ
header_len = 28

-- a file has fewer bytes than this, as offsets of files are signed
abbrev pub most_file_bytes : ℕ
most_file_bytes = 2 ^ 63

-- ---- the parts of a head, in bytes that begin with it

-- the entry: a length byte, an id of that length, and be64 the block's used length
abbrev pub entry_len : List ℕ → ℕ
entry_len bytes = 9 + slice_index bytes 0

-- the header: be32 version, be64 page size, be64 the bitmap's offset, be64 the pages' offset
abbrev pub version_in : List ℕ → ℕ
version_in bytes = be32_at (entry_len bytes) bytes

abbrev pub page_size_in : List ℕ → ℕ
page_size_in bytes = be64_at (entry_len bytes + 4) bytes

abbrev pub bitmap_offset_in : List ℕ → ℕ
bitmap_offset_in bytes = be64_at (entry_len bytes + 12) bytes

abbrev pub pages_offset_in : List ℕ → ℕ
pages_offset_in bytes = be64_at (entry_len bytes + 20) bytes

-- the bitmap
abbrev pub bitmap_start : List ℕ → ℕ
bitmap_start bytes = entry_len bytes + header_len

abbrev pub pages_in : ℕ → List ℕ → ℕ
pages_in page_size bytes = length_in bytes / page_size

abbrev pub bitmap_end : ℕ → List ℕ → ℕ
bitmap_end page_size bytes = bitmap_start bytes + bitmap_len (pages_in page_size bytes)

abbrev pub bitmap_in : ℕ → List ℕ → List ℕ
bitmap_in page_size bytes = slice_range bytes (bitmap_start bytes) (bitmap_end page_size bytes)

-- the block that it is the head of
abbrev pub block_in : ℕ → List ℕ → MappedBlock
block_in page_size bytes = record {
  id = id_in bytes;
  pages = pages_in page_size bytes;
  bitmap = bitmap_in page_size bytes;
  pages_at = pages_offset_in bytes;
}

-- ---- the faults of a head: each test with its fault, in their order

-- one of these blocks has the id
abbrev pub has_id : List MappedBlock → List ℕ → Bool
has_id blocks id = list_any (λ b. bytes_eq b.id id) blocks

abbrev pub entry_faults : MappedProgress → List ℕ → List (Bool × MappedFault)
entry_faults c bytes =
    (nat_lt (length bytes) (entry_len bytes), fault.Truncated) ∷
    (nat_le max_blocks (length c.blocks), fault.TooManyBlocks) ∷
    (not (is_id (id_in bytes)), fault.Id) ∷
    (has_id c.blocks (id_in bytes), fault.IdTwice) ∷
    (length_in bytes == 0 || not (length_in bytes % c.given.page_size == 0), fault.Length) ∷
    (nat_lt c.left (length_in bytes), fault.SizeSum) ∷ []

-- the pages' offset lies before the bitmap's end, is no multiple of the page size, or leaves no
-- room for the pages
abbrev pub is_bad_place : MappedProgress → List ℕ → Bool
is_bad_place c bytes =
    nat_lt (pages_offset_in bytes) (c.place + bitmap_end c.given.page_size bytes)
    || (not (pages_offset_in bytes % c.given.page_size == 0)
    || nat_le most_file_bytes (pages_offset_in bytes + length_in bytes))

abbrev pub header_faults : MappedProgress → List ℕ → List (Bool × MappedFault)
header_faults c bytes =
    (nat_lt (length bytes) (bitmap_start bytes), fault.Truncated) ∷
    (not (version_in bytes == header_version), fault.HeaderVersion) ∷
    (not (page_size_in bytes == c.given.page_size), fault.HeaderPageSize) ∷
    (not (bitmap_offset_in bytes == c.place + bitmap_start bytes), fault.BitmapOffset) ∷
    (is_bad_place c bytes, fault.PagesOffset) ∷ []

abbrev pub bitmap_faults : MappedProgress → List ℕ → List (Bool × MappedFault)
bitmap_faults c bytes =
    (nat_lt (length bytes) (bitmap_end c.given.page_size bytes), fault.Truncated) ∷
    (has_tail c.given.order (bitmap_in c.given.page_size bytes) (pages_in c.given.page_size bytes), fault.BitmapTail) ∷ []

-- the first fault of the head at the front of these bytes; `Truncated` if they end inside it
abbrev pub head_fault : MappedProgress → List ℕ → Option MappedFault
head_fault c bytes = option_or (first_of (entry_faults c bytes)) (option_or (first_of (header_faults c bytes)) (first_of (bitmap_faults c bytes)))

-- with one block more, whose pages the next head follows
abbrev pub after_block : MappedProgress → MappedBlock → MappedProgress
after_block c b = record c { place = end_of c.given.page_size b; left = c.left - b.pages * c.given.page_size; blocks = c.blocks ++ b ∷ [] }

-- after the head at the front of these bytes
abbrev pub after_head : MappedProgress → List ℕ → MappedProgress
after_head c bytes = after_block c (block_in c.given.page_size bytes)
