-- The pages of a block.
use Rattle.std.specs.Prelude.{ℕ, List, [], length, replicate, slice_index_or, slice_set}
use Rattle.mig_mem.specs.PageSize.{IsPageSize}
use Rattle.mig_mem.specs.Image.{zero_page}
use Rattle.mig_mem.specs.Parts.{AreParts}

-- the size of a page, and the content of each
pub record BlockPages : Type 0 where
  pub size : ℕ
  pub pages : List (List ℕ)

-- no page
abbrev pub no_pages : BlockPages
no_pages = record { size = 0; pages = [] }

abbrev pub page_at : BlockPages → ℕ → List ℕ
page_at b i = slice_index_or b.pages i []

abbrev pub with_content : BlockPages → ℕ → List ℕ → BlockPages
with_content b i content = record b { pages = slice_set b.pages i content }

-- as many pages, all of zeros
abbrev pub cleared : BlockPages → BlockPages
cleared b = record b { pages = replicate (length b.pages) (zero_page b.size) }

-- the pages are parts of the bytes
pub record ArePages (size : ℕ) (slots bytes : List ℕ) (capacity : ℕ) : Type 0 where
  pub is_size : IsPageSize size
  pub are_parts : AreParts size slots bytes capacity
