-- The pages of a block in regions, one after another: a region has `per` pages, and the last one
-- may have fewer.
use Rattle.std.specs.Prelude.{ℕ, ◌≡◌, ◌-◌, ◌*◌, ◌/◌, ◌%◌, ◌^◌, ◌<◌, ◌≤◌, List, length, map, min, replicate, All, slice_index_or}
use Rattle.std.specs.List.{range_with_len}
use Rattle.mig_mem.specs.Image.{zero_page}
use Rattle.mig_mem.specs.BlockPages.{BlockPages, no_pages, page_at}

-- the region of a number
abbrev pub region_of : List BlockPages → ℕ → BlockPages
region_of regions i = slice_index_or regions i no_pages

-- a region has pages of the block's size, `per` of them at most
pub record IsRegion (per size : ℕ) (region : BlockPages) : Type 0 where
  pub same_size : region.size ≡ size
  pub at_most : length region.pages ≤ per

-- The regions have the first `count` pages: page k is page k % per of region k / per.
pub record AreRegions (per size count : ℕ) (regions : List BlockPages) : Type 0 where
  pub is_some : 0 < per
  pub has_room : length regions * per ≤ 2 ^ 40
  pub are_each : All (IsRegion per size) regions
  pub has_regions : (k : ℕ) → k < count → k / per < length regions
  pub has_pages : (k : ℕ) → k < count → k % per < length (region_of regions (k / per)).pages

-- the block whose pages they have
unfoldable pub in_regions : ℕ → ℕ → ℕ → List BlockPages → BlockPages
in_regions per size count regions = record { size = size; pages = map (λ k. page_at (region_of regions (k / per)) (k % per)) (range_with_len 0 count) }

-- the region of a number in a block of zeros
abbrev pub zero_region : ℕ → ℕ → ℕ → ℕ → BlockPages
zero_region per size count i = record { size = size; pages = replicate (min (count - i * per) per) (zero_page size) }
