-- How a worker finds the batch that its number claims: it walks over the round's dirty places, past
-- the batches of the other workers.
use Rattle.std.specs.Prelude.{ℕ, ◌≡◌, ◌<◌, ◌≤◌, List, [], ◌∷◌, ◌++◌, length, drop, flat_map, Option, None, Some, ◌&&◌, ◌==◌, nat_lt, if◌then◌else◌, vec_capacity, ⊤}
use Rattle.mig_mem.specs.declared.place.Place.{Place}
use Rattle.mig_mem.specs.PlaceSet.{PlaceSet, IsPlaceSet}
use Rattle.mig_send.specs.declared.channel_worker.Hand.{Hand}
use Rattle.mig_send.specs.declared.finder.Walk.{Walk}
use Rattle.mig_send.specs.declared.finder.Buffer.{Buffer}
use Rattle.mig_send.specs.declared.finder.Buffer.TheVariants.{Room, Unpacked, Moved}
use Rattle.mig_send.specs.declared.finder.Finder.{Finder}
use Rattle.mig_send.specs.Batches.{BatchOfPages, IsCut, IsFirstBatch, IsInSet, batch_places, places_from}
use Rattle.mig_send.specs.Work.{ClaimsBatches}
use Rattle.mig_send.specs.ChannelWork.{RoundTerms, batch_in}

-- ---- the batches of some places

-- the batch of one place
abbrev pub batch_of_one : Place → BatchOfPages
batch_of_one place = record { block = place.block; pages = place.page ∷ [] }

-- the batches of places that follow a batch which was begun: it takes those of its block until it
-- is full
unfoldable pub cut_after : ℕ → BatchOfPages → List Place → List BatchOfPages
cut_after limit batch [] = batch ∷ []
cut_after limit batch (place ∷ places) =
    if place.block == batch.block && nat_lt (length batch.pages) limit
    then cut_after limit (record batch { pages = batch.pages ++ place.page ∷ [] }) places
    else batch ∷ cut_after limit (batch_of_one place) places

-- the batches of some places, as `IsCut` says
unfoldable pub cut_of : ℕ → List Place → List BatchOfPages
cut_of limit [] = []
cut_of limit (place ∷ places) = cut_after limit (batch_of_one place) places

-- ---- what the workers share

-- the round's dirty places
abbrev pub places_of : RoundTerms → List Place
places_of terms = flat_map batch_places terms.batches

-- A round's dirty set, whose batches of at most `limit` pages the workers share.
pub record IsRoundWork (dirty : PlaceSet) (limit : ℕ) (terms : RoundTerms) : Type 0 where
  pub is_set : IsPlaceSet dirty
  pub has_limit : 0 < limit
  pub are_cut : IsCut limit dirty.marked terms.batches
  pub claims : ClaimsBatches terms.deal terms.table terms.batches

-- the set as its workers know it
abbrev pub set_of_work : RoundTerms → PlaceSet
set_of_work terms = record { table = terms.table; marked = places_of terms }

-- ---- a worker's walk

-- the first place after the batch that begins with a place
pub record IsAfterBatch (limit : ℕ) (places : List Place) (first : Place) (next : Option Place) : Type 0 where
  pub batch : BatchOfPages
  pub is_first : IsFirstBatch limit (places_from places (Some first)) batch (places_from places next)
  pub is_in_set : IsInSet places next

-- The walk is at a batch: the batches from there on are those of the places from there on.
pub record IsWalk (limit : ℕ) (places : List Place) (walk : Walk) : Type 0 where
  pub has_rest : cut_of limit (places_from places walk.next) ≡ drop walk.at (cut_of limit places)
  pub is_in_set : IsInSet places walk.next

-- the batch in a buffer
abbrev pub batch_held : {A : Type 0} → Buffer A → Option BatchOfPages
batch_held (Room pages) = None
batch_held (Unpacked batch) = Some batch
batch_held Moved = None

-- the buffer has a batch, or room for one
abbrev pub HasRoom : {A : Type 0} → ℕ → Buffer A → Type 0
HasRoom limit (Room pages) = limit ≤ vec_capacity pages
HasRoom limit (Unpacked batch) = ⊤
HasRoom limit Moved = ⊥

-- A worker finds batches of a round.
pub record IsFinder {A : Type 0} (terms : RoundTerms) (finder : Finder A) : Type 0 where
  pub has_limit : 0 < finder.limit
  pub are_cut : IsCut finder.limit (places_of terms) terms.batches
  pub is_walk : IsWalk finder.limit (places_of terms) finder.walk
  pub has_room : HasRoom finder.limit finder.buffer

-- A worker with this state has found the batch that its number claims, if it has one.
pub record HasFound {A : Type 0} (terms : RoundTerms) (hand : Hand) (finder : Finder A) : Type 0 where
  pub is_finder : IsFinder terms finder
  pub is_held : batch_held finder.buffer ≡ batch_in terms hand
