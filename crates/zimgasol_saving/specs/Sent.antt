-- The pages that `save` sends of the files of a guest's blocks.
use Rattle.std.specs.Prelude.{ℕ, ◌≡◌, ◌*◌, ◌≤◌, List, [], length, map, take, drop, Bool, true, not, bytes_eq, slice_index_or, Option, Some, None, IfSome}
use Rattle.std.specs.List.{filter, flat_map, range_with_len}
use Rattle.std.specs.Option.{option_map, option_map_or}
use Rattle.mig_mem.specs.declared.place.Place.{Place}
use Rattle.mig_mem.specs.RamTable.{RamTable, block}
use Rattle.mig_mem.specs.Place.{IsPlace, place_at, places}
use Rattle.mig_mem.specs.Image.{Page, Image, content_at}
use Rattle.mig_mem.specs.Round.{round_of}
use Rattle.mig_mem.specs.Parts.{part_at}
use Rattle.mig_mem.specs.Lent.{lent_image}
use Rattle.zimgasol_files.specs.Differing.{Piece}

-- the bytes of a block's file, and those of its older file, if there is one
pub record Source : Type 0 where
  pub bytes : List ℕ
  pub before : Option (List ℕ)

-- the source of a block
abbrev pub source_of : List Source → ℕ → Source
source_of sources b = slice_index_or sources b (record { bytes = []; before = None })

-- A page is sent if there is no older file, or if that one has other bytes there.
abbrev pub is_sent : ℕ → Source → ℕ → Bool
is_sent size s page = option_map_or (λ old. not (bytes_eq (part_at size old page) (part_at size s.bytes page))) s.before true

-- the memory in the files
abbrev pub memory_of : RamTable → List Source → Image
memory_of table sources = lent_image table (map (λ s. s.bytes) sources)

-- the places whose pages are sent, ascending
abbrev pub sent_places : RamTable → List Source → List Place
sent_places table sources = filter (λ p. is_sent table.page_size (source_of sources p.block) p.page) (places table)

-- those pages
abbrev pub sent_pages : RamTable → List Source → List Page
sent_pages table sources = round_of (memory_of table sources) (sent_places table sources)

-- A memory has, at each place of a block with an older file, what that file has there.
abbrev pub IsOlder : RamTable → List Source → Image → Type 0
IsOlder table sources m = (p : Place) (old : List ℕ) → IsPlace table p → (source_of sources p.block).before ≡ Some old
    → content_at m p ≡ part_at table.page_size old p.page

-- ---- how far the pages were sent

-- the page of a block
abbrev pub page_at : ℕ → ℕ → Source → ℕ → Page
page_at size b s page = record { place = place_at b page; content = part_at size s.bytes page }

-- the pages of a block that are sent, of n pages from `first` on
unfoldable pub sent_from : ℕ → ℕ → Source → ℕ → ℕ → List Page
sent_from size b s first n = map (page_at size b s) (filter (is_sent size s) (range_with_len first n))

-- those of a whole block of a table
abbrev pub sent_of : RamTable → List Source → ℕ → List Page
sent_of table sources b = sent_from table.page_size b (source_of sources b) 0 (block table.blocks b).pages

-- those of the first n blocks
unfoldable pub sent_before : RamTable → List Source → ℕ → List Page
sent_before table sources n = flat_map (sent_of table sources) (range_with_len 0 n)

-- `count` pages of a source, from page `first` on, with the older bytes there
abbrev pub piece_from : ℕ → Source → ℕ → ℕ → Piece
piece_from size s first count = record {
  size = size;
  bytes = take (count * size) (drop (first * size) s.bytes);
  before = option_map (λ old. take (count * size) (drop (first * size) old)) s.before;
}

-- the source has the first n pages, and its older file too
pub record HasPages (size : ℕ) (s : Source) (n : ℕ) : Type 0 where
  pub are_there : n * size ≤ length s.bytes
  pub were_there : IfSome s.before (λ old. n * size ≤ length old)
