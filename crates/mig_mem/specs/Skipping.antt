-- Steps over some places of a set.
use Rattle.std.specs.Prelude.{ℕ, ◌≡◌, ◌<◌, ◌≤◌, ◌-◌, ◌*◌, ◌==◌, List, length, count_by}
use Rattle.std.specs.List.{range_with_len}
use Rattle.std.specs.Int.{bit_at}
use Rattle.mig_mem.specs.RamTable.{block}
use Rattle.mig_mem.specs.Place.{place_at, has_place}
use Rattle.mig_mem.specs.PlaceSet.{PlaceSet}
use Rattle.mig_mem.specs.Marks.{is_set}

-- how many pages of a block are in the set, from a page on up to another
abbrev pub places_between : PlaceSet → (b from to : ℕ) → ℕ
places_between s b from to = count_by (λ page. has_place s.marked (place_at b page)) (range_with_len from (to - from))

-- A page of a block with `count` of the set's pages between another page and it. If there are fewer
-- up to the block's end, it isn't before that end.
pub record IsPastPlaces (s : PlaceSet) (b from count page : ℕ) : Type 0 where
  pub low : from ≤ page
  pub few : places_between s b from page ≤ count
  pub all : page < (block s.table.blocks b).pages → places_between s b from page ≡ count

-- ---- how the code finds it, which only private contracts cite

-- how many marks there are from a page on up to another
abbrev pub marks_between : List ℕ → (from to : ℕ) → ℕ
marks_between words from to = count_by (is_set words) (range_with_len from (to - from))

-- As `IsPastPlaces`, of the marks of one block.
pub record IsPastMarks (words : List ℕ) (from count page : ℕ) : Type 0 where
  pub low : from ≤ page
  pub few : marks_between words from page ≤ count
  pub all : page < 64 * length words → marks_between words from page ≡ count

-- A step over the lowest `width` bits of a number of `room` bits. `ones` of them are set, no more
-- than are left to find.
pub record IsStepOver (bits room left width ones : ℕ) : Type 0 where
  pub some : 0 < width
  pub within : width ≤ room
  pub few : ones ≤ left
  pub counts : ones ≡ count_by (λ i. bit_at bits i == 1) (range_with_len 0 width)
