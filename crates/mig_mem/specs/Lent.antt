-- A memory in bytes that another owns: for each block of a table its bytes, page after page.
use Rattle.std.specs.Prelude.{ℕ, ◌≡◌, ◌<◌, ◌*◌, List, [], length, map, Some, slice_index_or}
use Rattle.std.specs.Borrow.{Bor, MutBor}
use Rattle.mig_mem.specs.declared.place.Place.{Place}
use Rattle.mig_mem.specs.RamTable.{RamTable, block}
use Rattle.mig_mem.specs.Place.{IsPlace}
use Rattle.mig_mem.specs.Image.{Image, content, image_of}
use Rattle.mig_mem.specs.Parts.{part_at}

-- the bytes of blocks that are lent
abbrev pub lent_bytes : List (Bor (List ℕ)) → List (List ℕ)
lent_bytes blocks = map (λ b. b.now) blocks

-- the bytes of blocks that are lent for writing
abbrev pub mut_lent_bytes : List (MutBor (List ℕ)) → List (List ℕ)
mut_lent_bytes blocks = map (λ b. b.now) blocks

-- the bytes of a block, by its number
abbrev pub bytes_of_block : List (List ℕ) → ℕ → List ℕ
bytes_of_block blocks i = slice_index_or blocks i []

-- Bytes fit a table: each block has exactly the bytes of its pages, and there are no other bytes.
pub record FitTable (table : RamTable) (blocks : List (List ℕ)) : Type 0 where
  pub same_count : length blocks ≡ length table.blocks
  pub has_sizes : (i : ℕ) → i < length table.blocks → length (bytes_of_block blocks i) ≡ (block table.blocks i).pages * table.page_size

-- the content of a place
abbrev pub lent_at : ℕ → List (List ℕ) → Place → List ℕ
lent_at page_size blocks p = part_at page_size (bytes_of_block blocks p.block) p.page

-- the memory in bytes that fit a table
abbrev pub lent_image : RamTable → List (List ℕ) → Image
lent_image table blocks = image_of table (lent_at table.page_size blocks)

-- The content of a place is its page's part of its block's bytes.
abbrev pub LentPagesAreParts : Type 0
LentPagesAreParts = (table : RamTable) (blocks : List (List ℕ)) (p : Place) → IsPlace table p
    → content (lent_image table blocks) p ≡ Some (lent_at table.page_size blocks p)
