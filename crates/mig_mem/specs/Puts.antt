-- The pages of a round that are written into lent bytes or into the pages of blocks, and what these
-- hold after them.
use Rattle.std.specs.Prelude.{ℕ, ◌≡◌, ◌+◌, ◌*◌, ◌<◌, ◌≤◌, List, [], ◌∷◌, length, if◌then◌else◌, IfSome}
use Rattle.std.specs.Option.{option_copied, unwrap_or}
use Rattle.mig_mem.specs.declared.place.Place.{Place}
use Rattle.mig_mem.specs.declared.putting.RoundPage.{RoundPage}
use Rattle.mig_mem.specs.Place.{place_at, place_eq}
use Rattle.mig_mem.specs.Parts.{part_at}
use Rattle.mig_mem.specs.Image.{Page, zero_page}
use Rattle.mig_mem.specs.BlockPages.{BlockPages, page_at}
use Rattle.mig_mem.specs.Regions.{region_of}

-- the bytes that a page of the round writes: its content, or a page of zeros
abbrev pub bytes_given : ℕ → RoundPage → List ℕ
bytes_given size x = unwrap_or (option_copied x.content) (zero_page size)

-- the content, if there is one, has the page size
abbrev pub HasPageSize : ℕ → RoundPage → Type 0
HasPageSize size x = IfSome x.content (λ bytes. length bytes.now ≡ size)

-- the page as the definitions have it
abbrev pub round_page : ℕ → RoundPage → Page
round_page size x = record { place = x.place; content = bytes_given size x }

-- the content of a place after some pages: that of the last page there, or else the old content
abbrev pub given : ℕ → Place → List RoundPage → List ℕ → List ℕ
given size p [] was = was
given size p (x ∷ xs) was = given size p xs (if place_eq x.place p then bytes_given size x else was)

-- each page of a part of a block, which begins at page `first`, has its content after the pages
pub record PutsAll (size block first : ℕ) (old new : List ℕ) (pages : List RoundPage) : Type 0 where
  pub len : length new ≡ length old
  pub each : (q : ℕ) → q * size + size ≤ length old → part_at size new q ≡ given size (place_at block (first + q)) pages (part_at size old q)

-- each of some pages of a block, which begin at page `first`, has what the pages give it
pub record PutsPages (size block first : ℕ) (old new : BlockPages) (pages : List RoundPage) : Type 0 where
  pub same_size : new.size ≡ old.size
  pub same_count : length new.pages ≡ length old.pages
  pub each : (q : ℕ) → q < length old.pages → page_at new q ≡ given size (place_at block (first + q)) pages (page_at old q)

-- and each page of some regions of a block, of `per` pages, of which the first begins at page
-- `first`
pub record PutsRegions (size per block first : ℕ) (old new : List BlockPages) (pages : List RoundPage) : Type 0 where
  pub same_len : length new ≡ length old
  pub each : (i : ℕ) → i < length old → PutsPages size block (first + i * per) (region_of old i) (region_of new i) pages
