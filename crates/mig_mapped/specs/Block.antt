-- A block of a guest, as a file with mapped-ram has it.
use Rattle.std.specs.Prelude.{ℕ, ◌≡◌, ◌+◌, ◌*◌, ◌<◌, ◌≤◌, List, [], map, slice_range, slice_index_or, true, false, if◌then◌else◌}
use Rattle.mig_mem.specs.RamTable.{Block, RamTable}
use Rattle.mig_mem.specs.Image.{Image, image_of, zero_page}
use Rattle.mig_mapped.specs.declared.settings.WordOrder.{WordOrder}
use Rattle.mig_mapped.specs.declared.settings.MappedSettings.{MappedSettings}
use Rattle.mig_mapped.specs.Bitmap.{is_set}

-- its id, how many pages it has, its bitmap, and the offset in the file at which its pages begin
pub record MappedBlock : Type 0 where
  pub id : List ℕ
  pub pages : ℕ
  pub bitmap : List ℕ
  pub pages_at : ℕ

-- the RAM block that it is
abbrev pub ram_block : MappedBlock → Block
ram_block b = record { id = b.id; pages = b.pages }

abbrev pub table_of : ℕ → List MappedBlock → RamTable
table_of page_size blocks = record { page_size = page_size; blocks = map ram_block blocks }

-- the block with a number
abbrev pub mapped_block : List MappedBlock → ℕ → MappedBlock
mapped_block blocks i = slice_index_or blocks i (record { id = []; pages = 0; bitmap = []; pages_at = 0 })

-- the offset at which a page lies, or would lie if its bit isn't set
abbrev pub page_offset : ℕ → MappedBlock → ℕ → ℕ
page_offset page_size b page = b.pages_at + page * page_size

-- the offset after the last page
abbrev pub end_of : ℕ → MappedBlock → ℕ
end_of page_size b = page_offset page_size b b.pages

-- the content of a page: if its bit is set the bytes at its offset, and else zeros, whatever bytes
-- lie there
abbrev pub page_in : MappedSettings → List ℕ → MappedBlock → ℕ → List ℕ
page_in given file b page =
    if is_set given.order b.bitmap page
    then slice_range file (page_offset given.page_size b page) (page_offset given.page_size b page + given.page_size)
    else zero_page given.page_size

-- the memory that a file stands for, with these blocks
abbrev pub memory_in : MappedSettings → List ℕ → List MappedBlock → Image
memory_in given file blocks = image_of (table_of given.page_size blocks) (λ p. page_in given file (mapped_block blocks p.block) p.page)

-- Pages of a block that follow each other in the file, each with its bit set: from the first one
-- that is set, from `from` on, up to the next one that isn't.
pub record IsRun (order : WordOrder) (b : MappedBlock) (from first count : ℕ) : Type 0 where
  pub low : from ≤ first
  pub some : 0 < count
  pub within : first + count ≤ b.pages
  pub none_before : (q : ℕ) → from ≤ q → q < first → is_set order b.bitmap q ≡ false
  pub all_set : (q : ℕ) → first ≤ q → q < first + count → is_set order b.bitmap q ≡ true
  pub none_after : first + count < b.pages → is_set order b.bitmap (first + count) ≡ false
