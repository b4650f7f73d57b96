-- Batches: the dirty pages of a round in groups, each for one packet.
use Rattle.std.specs.Prelude.{ℕ, ◌≡◌, ◌<◌, ◌≤◌, List, [], ◌++◌, length, map, flat_map, All, AllPairs, Option, Some, None, not, true}
use Rattle.std.specs.List.{filter}
use Rattle.mig_mem.specs.declared.place.Place.{Place}
use Rattle.mig_mem.specs.RamTable.{RamTable}
use Rattle.mig_mem.specs.Place.{IsPlace, place_at, place_lt, has_place}
use Rattle.mig_packet.specs.PageSize.{page_limit}

-- ---- batches

-- pages of one block, by their numbers in it
pub record BatchOfPages : Type 0 where
  pub block : ℕ
  pub pages : List ℕ

abbrev pub batch_places : BatchOfPages → List Place
batch_places batch = map (place_at batch.block) batch.pages

-- A batch of a table, which one packet can hold: pages of one of its blocks, ascending and none
-- twice, at least one, and no more than a packet may have.
pub record IsBatch (table : RamTable) (batch : BatchOfPages) : Type 0 where
  pub has_places : All (IsPlace table) (batch_places batch)
  pub has_some : 0 < length batch.pages
  pub has_few : length batch.pages ≤ page_limit table.page_size
  pub is_ascending : AllPairs (λ a b. a < b) batch.pages

-- ---- cutting

-- The batches of some places: all of the places, in their order. Each batch has at least one place,
-- of one block, and at most `limit`. A batch that another of its block follows is full.
pub record IsCut (limit : ℕ) (places : List Place) (batches : List BatchOfPages) : Type 0 where
  pub has_all : flat_map batch_places batches ≡ places
  pub has_sizes : All (λ batch. (0 < length batch.pages) × (length batch.pages ≤ limit)) batches
  pub are_full : AllPairs (λ a b. a.block ≡ b.block → length a.pages ≡ limit) batches

-- There is one such list of batches.
abbrev pub HasOneCut : Type 0
HasOneCut = (limit : ℕ) (places : List Place) (some others : List BatchOfPages) → IsCut limit places some → IsCut limit places others → some ≡ others

-- ---- the walk over a set of places

-- the position of the walk: at one of the places, or after all of them
abbrev pub IsInSet : List Place → Option Place → Type 0
IsInSet places None = Unit {0}
IsInSet places (Some next) = has_place places next ≡ true

-- the places from there on
abbrev pub places_from : List Place → Option Place → List Place
places_from places None = []
places_from places (Some next) = filter (λ place. not (place_lt place next)) places

-- The first batch of some places, and the places after it. If these go on with its block, it is
-- full.
pub record IsFirstBatch (limit : ℕ) (places : List Place) (batch : BatchOfPages) (behind : List Place) : Type 0 where
  pub has_all : places ≡ batch_places batch ++ behind
  pub has_some : 0 < length batch.pages
  pub has_few : length batch.pages ≤ limit
  pub is_full : All (λ place. place.block ≡ batch.block → length batch.pages ≡ limit) behind
