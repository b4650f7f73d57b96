-- A load in place of several channels, whose pages others read to their places. What it represents
-- is judged by the packets that were taken. The places of packets that were claimed, and not taken
-- yet, are the readers': the memory may hold anything there.
use Rattle.std.specs.Prelude.{ℕ, ◌≡◌, ◌+◌, ◌/◌, ◌<◌, ◌||◌, ◌&&◌, not, false, List, map, IsTrue}
use Rattle.std.specs.List.{range_with_len}
use Rattle.mig_mem.specs.declared.place.Place.{Place}
use Rattle.mig_mem.specs.Place.{IsPlace, has_place, place_at}
use Rattle.mig_mem.specs.RamTable.{RamTable}
use Rattle.mig_mem.specs.PlaceSet.{PlaceSet}
use Rattle.mig_mem.specs.Image.{Image, image_of, content_at}
use Rattle.mig_mem.specs.Round.{with_round}
use Rattle.mig_packet.specs.Packet.{normal_count, zero_count, offset_at}
use Rattle.mig_load_types.specs.declared.settings.LoadSettings.{LoadSettings}
use Rattle.mig_answer.specs.Texts.{Texts}
use Rattle.mig_sources.specs.declared.source.Source.TheVariants as source
use Rattle.mig_sources.specs.Sources.{feed_step}
use Rattle.mig_in_place.specs.Answer.{HoldsElsewhere}
use Rattle.mig_in_place.specs.Session.{InPlaceLoad, StandsFor}
use Rattle.mig_assemble.specs.HeadPlaces.{LieIn}
use Rattle.mig_in_place.specs.TakenPackets.{packet_bytes, pages_taken}
use Rattle.mig_apart.specs.declared.session.Claim.{Claim}
use Rattle.mig_apart.specs.declared.session.Claim.TheVariants as claim

-- a load, and the places that are claimed
pub record ApartLoad : Type 0 where
  pub load : InPlaceLoad
  pub claimed : PlaceSet

-- ---- the places of a packet

-- the places of all pages of a packet in a block, by its head
abbrev pub packet_places : RamTable → ℕ → List ℕ → List Place
packet_places table b head = map (λ i. place_at b (offset_at head i / table.page_size)) (range_with_len 0 (normal_count head + zero_count head))

-- Of the places of a table those of a packet are claimed, too.
abbrev pub ClaimsMore : RamTable → List Place → PlaceSet → PlaceSet → Type 0
ClaimsMore table places old new = (p : Place) → IsPlace table p → has_place new.marked p ≡ (has_place places p || has_place old.marked p)

-- Those of a packet aren't claimed any more.
abbrev pub ClaimsLess : RamTable → List Place → PlaceSet → PlaceSet → Type 0
ClaimsLess table places old new = (p : Place) → IsPlace table p → has_place new.marked p ≡ (has_place old.marked p && not (has_place places p))

-- The places of a packet are claimed, of which none was before.
pub record IsNewClaim (table : RamTable) (places : List Place) (old new : PlaceSet) : Type 0 where
  pub none_before : (p : Place) → IsPlace table p → IsTrue (has_place places p) → has_place old.marked p ≡ false
  pub claims : ClaimsMore table places old new

-- ---- what it represents

abbrev pub IsClaimed : ApartLoad → Place → Type 0
IsClaimed s p = IsTrue (has_place s.claimed.marked p)

-- A load represents some streams with some memory, and `memory` has what that one has, except at
-- claimed places.
pub record StandsFreely (given : LoadSettings) (uuid : List ℕ) (first : Image) (texts : Texts) (memory : Image) (s : ApartLoad) : Type 0 where
  pub judged : Image
  pub same_table : judged.table ≡ s.load.table
  pub has_contents : judged ≡ image_of judged.table (content_at judged)
  pub stands : StandsFor given uuid first texts judged s.load
  pub agrees : HoldsElsewhere judged (IsClaimed s) memory

-- A packet of a channel was taken: a load that represented some streams with a memory represents
-- them, and the packet, with the packet's pages in that memory.
abbrev pub TakesFreely : ℕ → List ℕ → List (List ℕ) → ApartLoad → ApartLoad → Type 0
TakesFreely channel head contents old new = (given : LoadSettings) (uuid : List ℕ) (first : Image) (texts : Texts) (memory : Image)
    → StandsFreely given uuid first texts memory old
    → StandsFreely given uuid first (feed_step (source.Channel channel) (packet_bytes head contents) texts) (with_round memory (pages_taken memory.table head contents)) new

-- ---- its calls

-- One of the places of a packet, in a block that has them, is claimed.
abbrev pub MeetsClaim : List ℕ → ApartLoad → Type 0
MeetsClaim head s = (b : ℕ) × LieIn s.load.table b head × (i : ℕ) × (i < normal_count head + zero_count head) × IsClaimed s (place_at b (offset_at head i / s.load.table.page_size))

-- The answer to a head: its places are newly claimed, in a block that has them. Or nothing is: one
-- of them is claimed already, or the load says to feed.
abbrev pub ClaimsPacket : List ℕ → Claim → ApartLoad → ApartLoad → Type 0
ClaimsPacket head (claim.Pages found b) old new = (found.bytes.now ≡ head) × LieIn old.load.table b head × IsNewClaim old.load.table (packet_places old.load.table b head) old.claimed new.claimed
ClaimsPacket head claim.Wait old new = (new ≡ old) × MeetsClaim head old
ClaimsPacket head claim.Feed old new = new ≡ old

-- All places of a packet, in a block that has them, were claimed, and aren't any more.
abbrev pub FreesPacket : List ℕ → ApartLoad → ApartLoad → Type 0
FreesPacket head old new = (b : ℕ) × LieIn old.load.table b head
    × ((i : ℕ) → i < normal_count head + zero_count head → IsClaimed old (place_at b (offset_at head i / old.load.table.page_size)))
    × ClaimsLess old.load.table (packet_places old.load.table b head) old.claimed new.claimed
