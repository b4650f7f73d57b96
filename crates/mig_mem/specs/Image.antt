-- The memory of a guest: one content for each place of its table, and nothing else.
use Rattle.std.specs.Prelude.{ℕ, ◌≡◌, ◌<◌, ◌/◌, ◌%◌, List, [], length, map, find, replicate, slice_set, Option, All, Bool, true, false, not, if◌then◌else◌, bytes_eq}
use Rattle.std.specs.Option.{option_map, unwrap_or}
use Rattle.mig_mem.specs.declared.place.Place.{Place}
use Rattle.mig_mem.specs.RamTable.{RamTable, block}
use Rattle.mig_mem.specs.Place.{place_at, place_eq, places}

-- a page: where it is, and the bytes that it holds
pub record Page : Type 0 where
  pub place : Place
  pub content : List ℕ

pub record Image : Type 0 where
  pub table : RamTable
  pub pages : List Page

-- A memory has one page for each place of its table, in the order of the places, and no other. Each
-- has the table's page size. `IsTable` says that the table is lawful.
pub record IsImage (m : Image) : Type 0 where
  pub has_places : map (λ x. x.place) m.pages ≡ places m.table
  pub has_sizes : All (λ x. length x.content ≡ m.table.page_size) m.pages

-- what a memory holds at a place, or None for a place outside its table
unfoldable pub content : Image → Place → Option (List ℕ)
content m p = option_map (λ x. x.content) (find (λ x. place_eq x.place p) m.pages)

-- the content at a place of the table
abbrev pub content_at : Image → Place → List ℕ
content_at m p = unwrap_or (content m p) []

-- the pages at these places, with the content that the function gives
unfoldable pub pages_of : (Place → List ℕ) → List Place → List Page
pages_of f ps = map (λ p. record { place = p; content = f p }) ps

-- the memory with the content that the function gives at each place of a table
abbrev pub image_of : RamTable → (Place → List ℕ) → Image
image_of table f = record { table = table; pages = pages_of f (places table) }

-- a page of zeros
abbrev pub zero_page : ℕ → List ℕ
zero_page size = replicate size 0

abbrev pub zero_image : RamTable → Image
zero_image table = image_of table (λ _. zero_page table.page_size)

-- the memory with another content at one place
abbrev pub with_page : Image → Place → List ℕ → Image
with_page m p bytes = image_of m.table (λ q. if place_eq q p then bytes else content_at m q)

-- the memory with another byte, `offset` bytes into a block
abbrev pub with_byte : Image → ℕ → ℕ → ℕ → Image
with_byte m b offset byte =
    let p = place_at b (offset / m.table.page_size) in
    with_page m p (slice_set (content_at m p) (offset % m.table.page_size) byte)

-- two memories differ at a place
abbrev pub differs : Image → Image → Place → Bool
differs a b p = not (bytes_eq (content_at a p) (content_at b p))

-- the first page of a block where two memories differ
pub record IsFirstDifference (a b : Image) (at page : ℕ) : Type 0 where
  pub has_page : page < (block a.table.blocks at).pages
  pub here : differs a b (place_at at page) ≡ true
  pub before : (q : ℕ) → q < page → differs a b (place_at at q) ≡ false
