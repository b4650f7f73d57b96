-- The pages of packets that C reads to their places, in blocks that were zeros: which of them may
-- hold something else.
use Rattle.std.specs.Prelude.{ℕ, ◌≡◌, ◌+◌, ◌/◌, ◌<◌, ◌||◌, ◌&&◌, not, List, length, map, get_or, Option, None, Some}
use Rattle.std.specs.List.{filter, range_with_len}
use Rattle.mig_mem.specs.declared.place.Place.{Place}
use Rattle.mig_mem.specs.RamTable.{RamTable}
use Rattle.mig_mem.specs.Place.{IsPlace, has_place, place_at}
use Rattle.mig_mem.specs.PlaceSet.{PlaceSet, with_place}
use Rattle.mig_mem.specs.Image.{Image, with_page}
use Rattle.mig_mem.specs.Round.{with_round}
use Rattle.mig_marking.specs.Fresh.{AreZeros}
use Rattle.mig_assemble.specs.HeadPlaces.{LieIn}
use Rattle.mig_in_place.specs.TakenPackets.{pages_taken}
use Rattle.mig_packet.specs.Packet.{normal_count, zero_count, offset_at}
use Rattle.mig_c_loads.specs.declared.claimed_pages.ClaimedPages.{ClaimedPages}

-- the places of the normal pages of a packet in a block, and of its pages of zeros
abbrev pub normal_places : RamTable → ℕ → List ℕ → List Place
normal_places table b head = map (λ i. place_at b (offset_at head i / table.page_size)) (range_with_len 0 (normal_count head))

abbrev pub zero_places : RamTable → ℕ → List ℕ → List Place
zero_places table b head = map (λ i. place_at b (offset_at head (normal_count head + i) / table.page_size)) (range_with_len 0 (zero_count head))

-- A packet was taken: its normal pages may hold something else than zeros, and its pages of zeros
-- hold zeros, but for those that are normal ones, too.
abbrev pub FillsPages : RamTable → ℕ → List ℕ → PlaceSet → PlaceSet → Type 0
FillsPages table b head old new = (p : Place) → IsPlace table p
    → has_place new.marked p ≡ (has_place (normal_places table b head) p || (has_place old.marked p && not (has_place (zero_places table b head) p)))

-- If C's blocks were zeros these are noted.
abbrev pub FillsPacket : RamTable → ℕ → List ℕ → Option PlaceSet → Option PlaceSet → Type 0
FillsPacket table b head None new = new ≡ None
FillsPacket table b head (Some old) None = ⊥
FillsPacket table b head (Some old) (Some new) = (new.table ≡ old.table) × FillsPages table b head old new

-- ---- what C clears

-- the pages of zeros that C sees
abbrev pub zeros_seen : ClaimedPages → List ℕ
zeros_seen seen = map (λ i. get_or seen.pages (seen.normal + i) 0) (range_with_len 0 seen.zero)

-- Of these, those are left that may hold something else than zeros. The rest stays.
pub record LeavesOut (filled : PlaceSet) (b : ℕ) (old new : ClaimedPages) : Type 0 where
  pub same_block : new.block ≡ old.block
  pub same_normal : new.normal ≡ old.normal
  pub normals : (i : ℕ) → i < old.normal → get_or new.pages i 0 ≡ get_or old.pages i 0
  pub zeros : zeros_seen new ≡ filter (λ page. has_place filled.marked (place_at b page)) (zeros_seen old)

-- ---- what is noted stays right

-- A memory that is zeros but for the pages noted stays so, as a page is read to its place, and as a
-- packet's pages are.
pub record PagesReadAreNoted : Type 0 where
  pub page : (memory : Image) (filled : PlaceSet) (place : Place) (content : List ℕ) → AreZeros memory filled → AreZeros (with_page memory place content) (with_place filled place)
  pub packet : (memory : Image) (head : List ℕ) (contents : List (List ℕ)) (b : ℕ) (old new : PlaceSet) → LieIn memory.table b head → length contents ≡ normal_count head
      → AreZeros memory old → new.table ≡ old.table → FillsPages memory.table b head old new → AreZeros (with_round memory (pages_taken memory.table head contents)) new
