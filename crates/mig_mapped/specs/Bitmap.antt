-- The bitmap of a block: a bit for each page, in words of 64 bits.
use Rattle.std.specs.Prelude.{ℕ, ◌≡◌, ◌+◌, ◌-◌, ◌*◌, ◌/◌, ◌%◌, ◌<◌, ◌≤◌, ◌==◌, List, slice_index, Bool, not}
use Rattle.std.specs.Int.{bit_at}
use Rattle.std.specs.List.{list_any, range_with_len}
use Rattle.mig_mapped.specs.declared.settings.WordOrder.{WordOrder}
use Rattle.mig_mapped.specs.declared.settings.WordOrder.TheVariants.{Little, Big}

-- The byte with a page's bit. Bit k of a word is of its page k, counted from 0, and a word lies in
-- the file as the host that wrote it has it in memory.
abbrev pub byte_of : WordOrder → ℕ → ℕ
byte_of Little page = page / 8
byte_of Big page = page / 64 * 8 + (7 - page / 8 % 8)

-- the page's bit is set: the file has its content
unfoldable pub is_set : WordOrder → List ℕ → ℕ → Bool
is_set order bitmap page = bit_at (slice_index bitmap (byte_of order page)) (page % 8) == 1

-- the bytes of the bitmap of this many pages
abbrev pub bitmap_len : ℕ → ℕ
bitmap_len pages = (pages + 63) / 64 * 8

-- a bit after those of this many pages is set
abbrev pub has_tail : WordOrder → List ℕ → ℕ → Bool
has_tail order bitmap pages = list_any (is_set order bitmap) (range_with_len pages (8 * bitmap_len pages - pages))

-- The first page from `from` on whose bit is `bit`, or `pages` if each page before it has the other
-- bit.
pub record IsFirstWith (order : WordOrder) (bitmap : List ℕ) (bit : Bool) (from pages page : ℕ) : Type 0 where
  pub low : from ≤ page
  pub high : page ≤ pages
  pub before : (q : ℕ) → from ≤ q → q < page → is_set order bitmap q ≡ not bit
  pub here : page < pages → is_set order bitmap page ≡ bit
