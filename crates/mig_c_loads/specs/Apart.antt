-- A load of several channels whose pages C reads straight to their places, apart from its calls:
-- what each call does, by its status.
use Rattle.std.specs.Prelude.{◌≡◌, ◌≢◌, ◌+◌, ◌/◌, ◌<◌, ℕ, List, [], ◌∷◌, get_or, Option, None, Some, IfSome}
use Rattle.mig_mem.specs.RamTable.{RamTable}
use Rattle.mig_mem.specs.PlaceSet.{PlaceSet}
use Rattle.mig_packet.specs.Packet.{normal_count, zero_count, offset_at}
use Rattle.mig_assemble.specs.HeadPlaces.{LieIn}
use Rattle.mig_stream.specs.declared.item.Frame.{Frame}
use Rattle.mig_load_types.specs.declared.settings.RoundEnd.{RoundEnd}
use Rattle.mig_sources.specs.declared.source.Source.{Source}
use Rattle.mig_sources.specs.declared.source.Source.TheVariants as source
use Rattle.mig_sources.specs.Sources.{HasSource}
use Rattle.mig_in_place.specs.Sources.{counts_of}
use Rattle.mig_in_place.specs.Session.{InPlaceLoad}
use Rattle.mig_apart.specs.Claims.{ApartLoad, packet_places, IsNewClaim, MeetsClaim, FreesPacket, TakesFreely}
use Rattle.mig_c_calls.specs.Status.{IsOneOf, running, no_memory, bad_source, out_of_turn, is_claimed, to_feed}
use Rattle.mig_c_loads.specs.declared.claimed_pages.ClaimedPages.{ClaimedPages}
use Rattle.mig_c_loads.specs.Filling.{FillsPacket, LeavesOut}
use Rattle.mig_c_loads.specs.InPlaceSessions.{Opens, OpensInto, FeedsBlocks, EndsSource}

-- the load in place of one whose pages are read apart
abbrev pub load_in : Option ApartLoad → Option InPlaceLoad
load_in None = None
load_in (Some s) = Some s.load

-- A load of a table begins as one in place, and nothing is claimed.
abbrev pub BeginsApart : Option RamTable → List ℕ → ℕ → Option Frame → Option ℕ → Option RoundEnd → Option ApartLoad → Type 0
BeginsApart table uuid channels frame waiting ends made = Opens table uuid channels frame waiting ends (load_in made) × IfSome made (λ s. s.claimed.marked ≡ [])

-- The effect of `new`, with a table: the load is as one in place, and nothing is claimed.
pub record OpensApart (table : Option RamTable) (uuid : List ℕ) (channels frame : ℕ) (waiting : Option ℕ) (ends status : ℕ) (made : Option ApartLoad) : Type 0 where
  pub opens : OpensInto table uuid channels frame waiting ends status (load_in made)
  pub none : IfSome made (λ s. s.claimed.marked ≡ [])

-- C sees the pages of a packet with this head: their block, how many have contents in the packet,
-- how many are zeros, and their numbers, those of the first before those of the others.
pub record ListsPacket (page_size block : ℕ) (head : List ℕ) (seen : ClaimedPages) : Type 0 where
  pub same_block : seen.block ≡ block
  pub normals : seen.normal ≡ normal_count head
  pub zeros : seen.zero ≡ zero_count head
  pub numbers : (i : ℕ) → i < normal_count head + zero_count head → get_or seen.pages i 0 ≡ offset_at head i / page_size

-- C sees all pages of a packet; or, if its blocks were zeros, all but the pages of zeros that hold
-- nothing else.
abbrev pub ListsFilled : Option PlaceSet → ℕ → ℕ → List ℕ → ClaimedPages → Type 0
ListsFilled None page_size block head seen = ListsPacket page_size block head seen
ListsFilled (Some filled) page_size block head seen = (all : ClaimedPages) × ListsPacket page_size block head all × LeavesOut filled block all seen

-- The effect of `claim`: the places of the packet are newly claimed, in a block that has them, and
-- C sees which. In every other case nothing is claimed; where C is to wait, one of them was
-- already.
pub record ClaimsHead (channel : ℕ) (head : List ℕ) (status : ℕ) (before after : ClaimedPages) (filled : Option PlaceSet) (old new : ApartLoad) : Type 0 where
  pub is_named : IsOneOf (running ∷ bad_source ∷ is_claimed ∷ to_feed ∷ []) status
  pub lies : status ≡ running → LieIn old.load.table after.block head
  pub claims : status ≡ running → IsNewClaim old.load.table (packet_places old.load.table after.block head) old.claimed new.claimed
  pub lists : status ≡ running → ListsFilled filled old.load.table.page_size after.block head after
  pub waits : status ≡ is_claimed → MeetsClaim head old
  pub same_load : new.load ≡ old.load
  pub same : status ≢ running → (new ≡ old) × (after ≡ before)
  pub foreign : status ≡ bad_source → HasSource (counts_of old.load.sources) (source.Channel channel) → ⊥
  pub has_source : status ≢ bad_source → HasSource (counts_of old.load.sources) (source.Channel channel)

-- The effect of `take`: the packet is taken, whatever memory the load stood for, and its places
-- aren't claimed any more. In every other case nothing is taken.
pub record TakesHead (channel : ℕ) (head : List ℕ) (contents : List (List ℕ)) (status : ℕ) (old new : ApartLoad) : Type 0 where
  pub is_named : IsOneOf (running ∷ no_memory ∷ bad_source ∷ out_of_turn ∷ []) status
  pub takes : status ≡ running → TakesFreely channel head contents old new
  pub freed : status ≡ running → FreesPacket head old new
  pub same_table : new.load.table ≡ old.load.table
  pub same : status ≢ running → new ≡ old
  pub foreign : status ≡ bad_source → HasSource (counts_of old.load.sources) (source.Channel channel) → ⊥
  pub has_source : status ≢ bad_source → HasSource (counts_of old.load.sources) (source.Channel channel)

-- What `take` notes, if C's blocks were zeros: of the packet that was taken, in its block.
abbrev pub FillsTaken : List ℕ → ℕ → ApartLoad → Option PlaceSet → Option PlaceSet → Type 0
FillsTaken head status s old new =
    (status ≡ running → (b : ℕ) × LieIn s.load.table b head × FillsPacket s.load.table b head old new)
    × (status ≢ running → new ≡ old)

-- The effect of `feed`: that of a load in place, while nothing is claimed.
pub record FeedsApart (from : Source) (piece : List ℕ) (before after : List (List ℕ)) (taken status : ℕ) (old new : ApartLoad) : Type 0 where
  pub claimed : status ≡ out_of_turn → (old.claimed.marked ≢ []) × (new ≡ old) × (after ≡ before) × (taken ≡ 0)
  pub none_claimed : status ≢ out_of_turn → old.claimed.marked ≡ []
  pub feeds : status ≢ out_of_turn → FeedsBlocks from piece before after taken status old.load new.load
  pub same_claims : new.claimed ≡ old.claimed

-- The effect of `end`: that of a load in place, and what is claimed stays.
pub record EndsApart (from : Source) (status : ℕ) (old new : ApartLoad) : Type 0 where
  pub ends : EndsSource from status old.load new.load
  pub same_claims : new.claimed ≡ old.claimed
