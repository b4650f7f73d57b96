-- A memory in blocks of pages.
use Rattle.std.specs.Prelude.{ℕ, ◌≡◌, ◌<◌, List, length, map, slice_index_or, All}
use Rattle.std.specs.declared.vec.Vec.{Vec}
use Rattle.mig_mem.specs.declared.place.Place.{Place}
use Rattle.mig_mem.specs.RamTable.{RamTable, block, IsTable}
use Rattle.mig_mem.specs.Image.{Image, image_of}
use Rattle.mig_mem.specs.BlockPages.{BlockPages, no_pages, page_at}

abbrev pub buffers_of : {A : Type 0} → List (Vec ℕ A) → List (List ℕ)
buffers_of buffers = map (λ v. v.items) buffers

-- the pages of a block, by its number
abbrev pub pages_of_block : List BlockPages → ℕ → BlockPages
pages_of_block blocks i = slice_index_or blocks i no_pages

-- the content of a place
abbrev pub held_at : List BlockPages → Place → List ℕ
held_at blocks p = page_at (pages_of_block blocks p.block) p.page

-- as many pages as the table says, each of the page size
pub record HasPages (size count : ℕ) (pages : BlockPages) : Type 0 where
  pub same_size : pages.size ≡ size
  pub same_count : length pages.pages ≡ count
  pub has_sizes : All (λ content. length content ≡ size) pages.pages

pub record IsHeld (table : RamTable) (blocks : List BlockPages) : Type 0 where
  pub is_table : IsTable table
  pub same_count : length blocks ≡ length table.blocks
  pub has_pages : (i : ℕ) → i < length table.blocks → HasPages table.page_size (block table.blocks i).pages (pages_of_block blocks i)

abbrev pub image_in : RamTable → List BlockPages → Image
image_in table blocks = image_of table (held_at blocks)
