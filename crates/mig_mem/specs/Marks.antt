-- A set of places as marks: for each block, words of 64 marks each.
use Rattle.std.specs.Prelude.{ℕ, ◌≡◌, ◌<◌, ◌≤◌, ◌+◌, ◌*◌, ◌/◌, ◌%◌, ◌==◌, List, [], length, replicate, slice_index, slice_index_or, Bool, ◌&&◌, true, false, nat_lt, count_by}
use Rattle.std.specs.Int.{bit_at}
use Rattle.std.specs.List.{range_with_len}
use Rattle.std.specs.declared.vec.Vec.{Vec}
use Rattle.mig_mem.specs.declared.place.Place.{Place}
use Rattle.mig_mem.specs.RamTable.{RamTable, block, IsTable}
use Rattle.mig_mem.specs.Place.{place_at}
use Rattle.mig_mem.specs.Image.{Image, differs}
use Rattle.mig_mem.specs.PlaceSet.{PlaceSet, places_where}
use Rattle.mig_mem.specs.Buffers.{buffers_of}

-- the mark of a page
unfoldable pub is_set : List ℕ → ℕ → Bool
is_set words page = bit_at (slice_index words (page / 64)) (page % 64) == 1

-- how many marks there are
unfoldable pub marks_in : List ℕ → ℕ
marks_in words = count_by (is_set words) (range_with_len 0 (64 * length words))

-- the lowest set bit of a word from a bit on
pub record IsLowestBit (word from b : ℕ) : Type 0 where
  pub low : from ≤ b
  pub small : b < 64
  pub set : bit_at word b ≡ 1
  pub before : (i : ℕ) → from ≤ i → i < b → bit_at word i ≡ 0

-- the first marked page from a page on
pub record IsFirstSet (words : List ℕ) (from p : ℕ) : Type 0 where
  pub low : from ≤ p
  pub within : p < 64 * length words
  pub set : is_set words p ≡ true
  pub before : (q : ℕ) → from ≤ q → q < p → is_set words q ≡ false

-- the mark of a place
abbrev pub is_marked : List (List ℕ) → Place → Bool
is_marked rows p = is_set (slice_index_or rows p.block []) p.page

-- a word for each 64 pages of each block, and one for the rest
pub record HasWords (table : RamTable) (rows : List (List ℕ)) : Type 0 where
  pub blocks : length rows ≡ length table.blocks
  pub pages : (i : ℕ) → i < length table.blocks → length (slice_index_or rows i []) ≡ ((block table.blocks i).pages + 63) / 64

-- no mark after the last page of a block
pub record AreMarks (table : RamTable) (rows : List (List ℕ)) : Type 0 where
  pub is_table : IsTable table
  pub has_room : HasWords table rows
  pub is_within : (i q : ℕ) → i < length table.blocks → (block table.blocks i).pages ≤ q → is_set (slice_index_or rows i []) q ≡ false

-- word `i` of the marks of a block's pages where two memories differ
pub record IsDifferingWord (a b : Image) (at i word : ℕ) : Type 0 where
  pub bits : (k : ℕ) → k < 64 → (bit_at word k == 1) ≡ (nat_lt (i * 64 + k) (block a.table.blocks at).pages && differs a b (place_at at (i * 64 + k)))

-- all words of a block's marks where two memories differ
pub record IsDifferingRow (a b : Image) (at : ℕ) (words : List ℕ) : Type 0 where
  pub len : length words ≡ ((block a.table.blocks at).pages + 63) / 64
  pub marks : (page : ℕ) → is_set words page ≡ (nat_lt page (block a.table.blocks at).pages && differs a b (place_at at page))

abbrev pub set_in : {A : Type 0} → RamTable → List (Vec ℕ A) → PlaceSet
set_in table words = record { table = table; marked = places_where table (is_marked (buffers_of words)) }

pub record IsCounted {A : Type 0} (table : RamTable) (words : List (Vec ℕ A)) (count : ℕ) : Type 0 where
  pub is_table : IsTable table
  pub has_room : HasWords table (buffers_of words)
  pub counts : count ≡ length (set_in table words).marked

-- rows as long as before, without a mark
pub record AreCleared (old new : List (List ℕ)) : Type 0 where
  pub len : length new ≡ length old
  pub rows : (i : ℕ) → slice_index_or new i [] ≡ replicate (length (slice_index_or old i [])) 0
