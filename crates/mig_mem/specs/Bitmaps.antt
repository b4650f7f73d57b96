-- Dirty bitmaps, as QEMU and KVM keep them: for each block of a table words of 64 bits, a bit a
-- page.
use Rattle.std.specs.Prelude.{ℕ, ◌≡◌, ◌<◌, ◌≤◌, ◌+◌, ◌*◌, ◌/◌, ◌%◌, ◌==◌, List, [], length, map, slice_index, slice_index_or, Bool, ◌&&◌, nat_lt}
use Rattle.std.specs.Int.{bit_at}
use Rattle.std.specs.Borrow.{Bor}
use Rattle.mig_mem.specs.declared.place.Place.{Place}
use Rattle.mig_mem.specs.RamTable.{RamTable, block}
use Rattle.mig_mem.specs.PlaceSet.{PlaceSet, places_where}
use Rattle.mig_mem.specs.Marks.{is_set}

-- the words of bitmaps that are lent
abbrev pub lent_words : List (Bor (List ℕ)) → List (List ℕ)
lent_words bitmaps = map (λ b. b.now) bitmaps

-- the bitmap of a block, by its number
abbrev pub bitmap_of : List (List ℕ) → ℕ → List ℕ
bitmap_of bitmaps i = slice_index_or bitmaps i []

-- the bit of a page: bit `page % 64` of word `page / 64`
unfoldable pub has_bit : List ℕ → ℕ → Bool
has_bit bitmap page = bit_at (slice_index bitmap (page / 64)) (page % 64) == 1

-- the bit of a place's page, in the bitmap of its block
abbrev pub in_bitmaps : List (List ℕ) → Place → Bool
in_bitmaps bitmaps place = has_bit (bitmap_of bitmaps place.block) place.page

-- There is a bitmap for each block of the table, and no other. Each has a bit for each page of its
-- block, and may have more.
pub record AreBitmaps (table : RamTable) (bitmaps : List (List ℕ)) : Type 0 where
  pub same_count : length bitmaps ≡ length table.blocks
  pub have_bits : (i : ℕ) → i < length table.blocks → (block table.blocks i).pages ≤ 64 * length (bitmap_of bitmaps i)

-- the set of the table's places whose bits are set
abbrev pub bitmap_set : RamTable → List (List ℕ) → PlaceSet
bitmap_set table bitmaps = record { table = table; marked = places_where table (in_bitmaps bitmaps) }

-- ---- how the code keeps them, which only private contracts cite

-- the marks of a block's pages: the words of its bitmap, without bits after its last page
pub record IsRowOf (bitmap : List ℕ) (pages : ℕ) (words : List ℕ) : Type 0 where
  pub len : length words ≡ (pages + 63) / 64
  pub marks : (page : ℕ) → is_set words page ≡ (nat_lt page pages && has_bit bitmap page)
