-- Rounds of pages, and the memory after them.
use Rattle.std.specs.Prelude.{◌≡◌, List, [], ◌∷◌, ◌++◌, length, find, reverse, Option, All}
use Rattle.std.specs.List.{flat_map}
use Rattle.std.specs.Option.{option_map_or}
use Rattle.mig_mem.specs.declared.place.Place.{Place}
use Rattle.mig_mem.specs.RamTable.{RamTable}
use Rattle.mig_mem.specs.Place.{place_eq, IsPlace, places}
use Rattle.mig_mem.specs.Image.{Page, Image, IsImage, content_at, pages_of, image_of, zero_page, zero_image, with_page}
use Rattle.mig_mem.specs.PlaceSet.{PlaceSet, IsPlaceSet}

-- The round of an image and its dirty places: a page for each place, in the order given (a dirty
-- set gives them ascending), with its content in the image.
abbrev pub round_of : Image → List Place → List Page
round_of m dirty = pages_of (content_at m) dirty

-- the last page at a place
unfoldable pub last_at : Place → List Page → Option Page
last_at p pages = find (λ x. place_eq x.place p) (reverse pages)

-- all pages of some rounds, round after round
abbrev pub all_pages : List (List Page) → List Page
all_pages rounds = flat_map (λ r. r) rounds

-- The memory after rounds has at each place the content of the last page there, in the last round
-- that has one. If no round has one, it has zeros.
abbrev pub after : RamTable → List (List Page) → Image
after table rounds = image_of table (λ p. option_map_or (λ x. x.content) (last_at p (all_pages rounds)) (zero_page table.page_size))

-- The pages of a round lie in the table, and have its page size.
pub record IsRound (table : RamTable) (round : List Page) : Type 0 where
  pub has_places : All (λ x. IsPlace table x.place) round
  pub has_sizes : All (λ x. length x.content ≡ table.page_size) round

-- The memory with a round applied has at each place the content of the last page of the round
-- there, or else the old content.
abbrev pub with_round : Image → List Page → Image
with_round m round = image_of m.table (λ p. option_map_or (λ x. x.content) (last_at p round) (content_at m p))

-- the memory with rounds applied, one after another
abbrev pub with_rounds : Image → List (List Page) → Image
with_rounds m rounds = with_round m (all_pages rounds)

-- The round of a memory and a set of its places is a round of its table.
abbrev pub ImagesMakeRounds : Type 0
ImagesMakeRounds = (m : Image) (s : PlaceSet) → IsImage m → IsPlaceSet s → s.table ≡ m.table → IsRound m.table (round_of m s.marked)

-- The memory after rounds is a memory of the table.
abbrev pub RoundsMakeMemory : Type 0
RoundsMakeMemory = (table : RamTable) (rounds : List (List Page)) → All (IsRound table) rounds → IsImage (after table rounds)

-- A round of one page changes the memory at its place alone.
abbrev pub OnePageMore : Type 0
OnePageMore = (table : RamTable) (rounds : List (List Page)) (x : Page)
    → after table (rounds ++ (x ∷ []) ∷ []) ≡ with_page (after table rounds) x.place x.content

-- One more round is applied to what the rounds before it left.
abbrev pub OneRoundMore : Type 0
OneRoundMore = (table : RamTable) (rounds : List (List Page)) (round : List Page) → after table (rounds ++ round ∷ []) ≡ with_round (after table rounds) round

-- Rounds that are applied to a memory begin with its contents, and leave a memory of its table. One
-- more round is applied to what those before it left.
pub record RoundsGoOnto : Type 0 where
  pub none : (m : Image) → IsImage m → with_rounds m [] ≡ m
  pub one_more : (m : Image) (rounds : List (List Page)) (round : List Page) → with_rounds m (rounds ++ round ∷ []) ≡ with_round (with_rounds m rounds) round
  pub makes_memory : (m : Image) (rounds : List (List Page)) → IsImage m → All (IsRound m.table) rounds → IsImage (with_rounds m rounds)

-- The memory after rounds is a memory of zeros with these rounds applied.
abbrev pub RoundsBeginWithZeros : Type 0
RoundsBeginWithZeros = (table : RamTable) (rounds : List (List Page)) → after table rounds ≡ with_rounds (zero_image table) rounds

-- A round of all pages of a memory leaves that memory, whatever was there before.
abbrev pub AllPagesMakeMemory : Type 0
AllPagesMakeMemory = (m before : Image) → IsImage m → m.table ≡ before.table → with_round before (round_of m (places m.table)) ≡ m
