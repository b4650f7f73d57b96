-- The load of a file into memory that is there already, in one forward pass.
use Rattle.std.specs.Prelude.{ℕ, ◌≡◌, ◌≢◌, ◌+◌, ◌-◌, ◌<◌, ◌≤◌, ◌⊎◌, Bool, true, not, ◌==◌, ◌||◌, ◌&&◌, nat_lt, nat_le, if◌then◌else◌, List, ◌++◌, length, take, Some, None, Result, Ok, Err}
use Rattle.mig_mem.specs.declared.place.Place.{Place}
use Rattle.mig_mem.specs.PageSize.{IsPageSize}
use Rattle.mig_mem.specs.RamTable.{RamTable, block}
use Rattle.mig_mem.specs.Image.{Image, content_at, image_of, zero_page}
use Rattle.mig_mapped.specs.declared.fault.MappedLoadFault.{MappedLoadFault}
use Rattle.mig_mapped.specs.declared.fault.MappedLoadFault.TheVariants as stop
use Rattle.mig_mapped.specs.declared.settings.MappedSettings.{MappedSettings}
use Rattle.mig_mapped.specs.declared.load.MappedWanted.{MappedWanted}
use Rattle.mig_mapped.specs.declared.load.MappedWanted.TheVariants.{Head, Skip, Page, End}
use Rattle.mig_mapped.specs.Bitmap.{is_set}
use Rattle.mig_mapped.specs.Block.{MappedBlock, ram_block, table_of, memory_in, mapped_block, page_offset, end_of, page_in}
use Rattle.mig_mapped.specs.Head.{MappedProgress, start, most_file_bytes, head_fault, bitmap_end, block_in, after_head}
use Rattle.mig_mapped.specs.Reading.{AreBlocks, after_blocks, IsMappedReading}

-- ---- the memory after the first bytes of a file

-- The content of a page is known from these bytes: its bit isn't set, or they have all of it.
abbrev pub has_come : MappedSettings → List ℕ → MappedBlock → ℕ → Bool
has_come given file b page = not (is_set given.order b.bitmap page) || nat_le (page_offset given.page_size b page + given.page_size) (length file)

-- what a place holds: the content of the page, if it is known, or else what it held before
abbrev pub loaded_at : MappedSettings → List ℕ → List MappedBlock → Image → Place → List ℕ
loaded_at given file blocks first p =
    if nat_lt p.block (length blocks) && has_come given file (mapped_block blocks p.block) p.page
    then page_in given file (mapped_block blocks p.block) p.page
    else content_at first p

-- the memory after these bytes of a file, with these blocks, which held `first` before
abbrev pub loaded : MappedSettings → List ℕ → List MappedBlock → Image → Image
loaded given file blocks first = image_of first.table (loaded_at given file blocks first)

-- what such a load keeps: the index so far, and the offset of the next byte
pub record MappedLoading : Type 0 where
  pub index : MappedProgress
  pub place : ℕ

-- The blocks so far are the first ones of the memory's table.
pub record AreOwn (table : RamTable) (blocks : List MappedBlock) : Type 0 where
  pub has_room : length blocks ≤ length table.blocks
  pub are_same : (i : ℕ) → i < length blocks → block table.blocks i ≡ ram_block (mapped_block blocks i)

-- A load that was begun with the memory `first`, at the offset `at` of the file, for a size list of
-- `total` bytes, has read these bytes of the file, counted from its beginning.
pub record LoadsMapped (at total : ℕ) (first : Image) (file : List ℕ) (s : MappedLoading) (memory : Image) : Type 0 where
  pub same_place : s.place ≡ length file
  pub are_blocks : AreBlocks file (start s.index.given at total) s.index.blocks
  pub is_index : s.index ≡ after_blocks (start s.index.given at total) s.index.blocks
  pub are_own : AreOwn first.table s.index.blocks
  pub has_memory : memory ≡ loaded s.index.given file s.index.blocks first

-- ---- what the next bytes are

-- the last block, whose pages are read
abbrev pub last_block : MappedLoading → MappedBlock
last_block s = mapped_block s.index.blocks (length s.index.blocks - 1)

-- a head is next, or nothing if no byte of the total is left
abbrev pub IsAtHead : MappedLoading → Type 0
IsAtHead s = s.place ≡ s.index.place

-- The next n bytes are part of no page whose bit is set, and of no head.
pub record AreSkipped (s : MappedLoading) (n : ℕ) : Type 0 where
  pub within : s.place + n ≤ s.index.place
  pub no_page : (q : ℕ) → q < (last_block s).pages → is_set s.index.given.order (last_block s).bitmap q ≡ true
      → (page_offset s.index.given.page_size (last_block s) q < s.place) ⊎ (s.place + n ≤ page_offset s.index.given.page_size (last_block s) q)

-- The next bytes are the content of this page.
pub record IsDue (s : MappedLoading) (p : Place) : Type 0 where
  pub is_last : p.block + 1 ≡ length s.index.blocks
  pub has_page : p.page < (last_block s).pages
  pub is_set : is_set s.index.given.order (last_block s).bitmap p.page ≡ true
  pub is_here : s.place ≡ page_offset s.index.given.page_size (last_block s) p.page

-- the invariant of what such a load keeps
pub record IsLoading (s : MappedLoading) : Type 0 where
  pub has_page_size : IsPageSize s.index.given.page_size
  pub has_place : s.index.place < most_file_bytes
  pub is_within : s.place ≤ s.index.place
  -- the pages of all blocks but the last one were read
  pub others_came : (i : ℕ) → i + 1 < length s.index.blocks → end_of s.index.given.page_size (mapped_block s.index.blocks i) ≤ s.place
  -- the next head follows the last block's pages, and no page was read in part
  pub begun : s.place < s.index.place → 0 < length s.index.blocks
  pub ends : 0 < length s.index.blocks → s.index.place ≡ end_of s.index.given.page_size (last_block s)
  pub is_whole : (q : ℕ) → q < (last_block s).pages → is_set s.index.given.order (last_block s).bitmap q ≡ true
      → (page_offset s.index.given.page_size (last_block s) q + s.index.given.page_size ≤ s.place)
      ⊎ (s.place ≤ page_offset s.index.given.page_size (last_block s) q)

-- the first page of the last block that begins at the next byte or after it
pub record IsNextPage (s : MappedLoading) (page : ℕ) : Type 0 where
  pub not_before : s.place ≤ page_offset s.index.given.page_size (last_block s) page
  pub before : (q : ℕ) → q < page → page_offset s.index.given.page_size (last_block s) q < s.place

abbrev pub Wants : MappedLoading → MappedWanted → Type 0
Wants s Head = IsAtHead s × (s.index.left ≢ 0)
Wants s (Skip n) = (0 < n) × AreSkipped s n
Wants s (Page p) = IsDue s p
Wants s End = IsAtHead s × (s.index.left ≡ 0)

-- ---- what its calls change

-- The memory with zeros in the first `upto` pages of a block whose bits aren't set.
abbrev pub cleared : MappedSettings → MappedBlock → ℕ → ℕ → Image → Image
cleared given b number upto m = image_of m.table (λ p.
    if p.block == number && (nat_lt p.page upto && not (is_set given.order b.bitmap p.page)) then zero_page m.table.page_size else content_at m p)

-- The load that had read a file has read these bytes more of it.
abbrev pub LoadsMore : MappedLoading → Image → List ℕ → MappedLoading → Image → Type 0
LoadsMore old before bytes new after = (at total : ℕ) (first : Image) (file : List ℕ) → LoadsMapped at total first file old before
    → LoadsMapped at total first (file ++ bytes) new after

-- the memory's table has this block next
pub record IsNextOwn (table : RamTable) (c : MappedProgress) (bytes : List ℕ) : Type 0 where
  pub has_room : length c.blocks < length table.blocks
  pub same_block : block table.blocks (length c.blocks) ≡ ram_block (block_in c.given.page_size bytes)

-- the head at the front of these bytes, of n bytes, was taken
pub record PutsHead (old : MappedLoading) (before : Image) (bytes : List ℕ) (new : MappedLoading) (after : Image) (n : ℕ) : Type 0 where
  pub has_len : n ≡ bitmap_end old.index.given.page_size bytes
  pub has_index : new.index ≡ after_head old.index bytes
  pub loads : LoadsMore old before (take n bytes) new after

-- A head is taken if it has no fault and is of the memory's next block. Then n bytes of these were
-- read. Otherwise nothing changes.
abbrev pub TakesOwnHead : MappedLoading → Image → List ℕ → MappedLoading → Image → Result ℕ MappedLoadFault → Type 0
TakesOwnHead old before bytes new after (Ok n) =
    (head_fault old.index bytes ≡ None) × IsNextOwn before.table old.index bytes × PutsHead old before bytes new after n
TakesOwnHead old before bytes new after (Err (stop.Fault fault)) = (head_fault old.index bytes ≡ Some fault) × (new ≡ old) × (after ≡ before)
TakesOwnHead old before bytes new after (Err stop.OtherTable) =
    (head_fault old.index bytes ≡ None) × (IsNextOwn before.table old.index bytes → ⊥) × (new ≡ old) × (after ≡ before)
TakesOwnHead old before bytes new after (Err stop.NoMemory) = (new ≡ old) × (after ≡ before)

-- A load that ends with all blocks of the memory's table has read a file without a fault, and the
-- memory is the one that the file stands for.
abbrev pub LoadedIsMemory : Type 0
LoadedIsMemory = (at total : ℕ) (first : Image) (file : List ℕ) (s : MappedLoading) (memory : Image) → LoadsMapped at total first file s memory
    → IsAtHead s → s.index.left ≡ 0 → first.table ≡ table_of s.index.given.page_size s.index.blocks
    → IsMappedReading s.index.given at total file (record { blocks = s.index.blocks; fault = None }) × (memory ≡ memory_in s.index.given file s.index.blocks)
