-- Guest memory that marks each page that is written into it, whatever load writes.
use Rattle.std.specs.Prelude.{ℕ, ◌≡◌, ◌<◌, ◌+◌, ◌^◌, List, [], length, map, true, if◌then◌else◌, not, ◌||◌, All}
use Rattle.mig_mem.specs.declared.place.Place.{Place}
use Rattle.mig_mem.specs.Place.{has_place}
use Rattle.mig_mem.specs.PlaceSet.{PlaceSet, IsPlaceSet, places_where}
use Rattle.mig_mem.specs.Image.{Image, Page, IsImage, content_at, image_of}
use Rattle.mig_mem.specs.Round.{with_round}

-- a memory, and which of its pages were written
pub record Marked : Type 0 where
  pub memory : Image
  pub written : PlaceSet

-- the set is of the memory's table, and each page that was written has bytes
pub record IsMarked (m : Marked) : Type 0 where
  pub same_table : m.written.table ≡ m.memory.table
  pub has_bytes : (p : Place) → has_place m.written.marked p ≡ true → All (λ byte. byte < 2 ^ 8) (content_at m.memory p)

-- what stands for a page that wasn't written: numbers that are no bytes
abbrev pub unwritten : List ℕ → List ℕ
unwritten content = map (λ byte. byte + 2 ^ 8) content

-- the memory as a load's contract sees it: each page that was written has its content
abbrev pub seen : Marked → Image
seen m = image_of m.memory.table (λ p. if has_place m.written.marked p then content_at m.memory p else unwritten (content_at m.memory p))

-- no page was written yet
abbrev pub none_written : Image → Marked
none_written memory = record { memory = memory; written = record { table = memory.table; marked = [] } }

-- with pages written, and marked
abbrev pub with_written : Marked → List Page → Marked
with_written m pages = record {
  memory = with_round m.memory pages;
  written = record { table = m.memory.table; marked = places_where m.memory.table (λ p. has_place m.written.marked p || has_place (map (λ x. x.place) pages) p) };
}

-- how many pages of the table weren't written
abbrev pub missing : Marked → ℕ
missing m = length (places_where m.memory.table (λ p. not (has_place m.written.marked p)))

-- a page of bytes
pub record IsPageOfBytes (page_size : ℕ) (page : Page) : Type 0 where
  pub has_size : length page.content ≡ page_size
  pub has_bytes : All (λ byte. byte < 2 ^ 8) page.content

-- What is seen of a memory after some pages says which were written, and what they hold, whatever
-- wrote them.
abbrev pub WrittenIsSeen : Type 0
WrittenIsSeen = (before after : Marked) (pages : List Page) → IsMarked before → IsMarked after → IsImage before.memory → IsImage after.memory → IsPlaceSet after.written
    → All (IsPageOfBytes before.memory.table.page_size) pages → seen after ≡ with_round (seen before) pages → after ≡ with_written before pages
