-- The pages of a piece that differ from the older ones at their places, and what `save` sends of
-- them.
use Rattle.std.specs.Prelude.{ℕ, zero, suc, ◌≡◌, ◌+◌, ◌*◌, ◌≤◌, ◌<◌, ◌^◌, ◌⊎◌, List, [], ◌∷◌, ◌++◌, length, slice_range, Option, IfSome}
use Rattle.std.specs.Option.{option_copied}
use Rattle.mig_mem.specs.Image.{Page}
use Rattle.zimgasol_files.specs.declared.pages.Pages.{Pages}

-- the bytes have this page completely, counted from 0
abbrev pub HasPage : ℕ → List ℕ → ℕ → Type 0
HasPage size bytes page = page * size + size ≤ length bytes

-- its bytes
abbrev pub page_of : ℕ → List ℕ → ℕ → List ℕ
page_of size bytes page = slice_range bytes (page * size) (page * size + size)

-- the older bytes have the page, and it is the same
pub record IsSamePage (size : ℕ) (bytes old : List ℕ) (page : ℕ) : Type 0 where
  pub was_there : HasPage size old page
  pub same : page_of size old page ≡ page_of size bytes page

-- A piece of a block: consecutive pages of this size, and the older bytes at their places.
pub record Piece : Type 0 where
  pub size : ℕ
  pub bytes : List ℕ
  pub before : Option (List ℕ)

-- what these pages are
abbrev pub piece_of : Pages → Piece
piece_of pages = record { size = pages.page_size; bytes = pages.bytes.now; before = option_copied pages.before }

-- the piece has the page, and the older bytes haven't
pub record Differs (piece : Piece) (page : ℕ) : Type 0 where
  pub is_there : HasPage piece.size piece.bytes page
  pub is_new : IfSome piece.before (λ old. ¬ IsSamePage piece.size piece.bytes old page)

-- the page as it is sent, of a piece whose first page is the page `first` of the block
abbrev pub page_sent : ℕ → ℕ → Piece → ℕ → Page
page_sent block first piece page = record {
  place = record { block = block; page = first + page };
  content = page_of piece.size piece.bytes page;
}

-- These are sent of the first n pages: those that differ, ascending.
unfoldable pub AreSent : ℕ → ℕ → Piece → ℕ → List Page → Type 0
AreSent block first piece zero pages = pages ≡ []
AreSent block first piece (suc n) pages = (rest : List Page) × AreSent block first piece n rest
    × ((Differs piece n × (pages ≡ rest ++ page_sent block first piece n ∷ [])) ⊎ ((Differs piece n → ⊥) × (pages ≡ rest)))

-- The count that began at `start` has all of the first n pages that differ, which are the pages
-- sent.
abbrev pub IsCountedTo : ℕ → Piece → ℕ → ℕ → ℕ → Type 0
IsCountedTo first piece n start count = (sent : List Page) × AreSent 0 first piece n sent × (start + length sent < 2 ^ 64 → count ≡ start + length sent)

-- what one page more does to such a count
abbrev pub CountsPage : ℕ → Piece → ℕ → ℕ → ℕ → Type 0
CountsPage first piece page old new = (start : ℕ) → IsCountedTo first piece page start old → IsCountedTo first piece (page + 1) start new
