-- A guest whose pages are read straight to their places.
use Rattle.std.specs.Prelude.{ℕ, ◌≡◌, ◌≢◌, ◌⊎◌, ◌+◌, ◌<◌, ◌/◌, List, map}
use Rattle.std.specs.List.{range_with_len}
use Rattle.mig_mem.specs.declared.place.Place.{Place}
use Rattle.mig_mem.specs.RamTable.{RamTable}
use Rattle.mig_mem.specs.Place.{IsPlace, place_at}
use Rattle.mig_mem.specs.Image.{Image, content_at, zero_page}
use Rattle.mig_packet.specs.Packet.{normal_count, zero_count, offset_at}
use Rattle.mig_packet.specs.declared.fault.ChannelFault.TheVariants as channel_fault
use Rattle.mig_load_types.specs.declared.settings.LoadSettings.{LoadSettings}
use Rattle.mig_load_types.specs.declared.fault.Origin.{Origin}
use Rattle.mig_load_types.specs.declared.fault.Origin.TheVariants as origin
use Rattle.mig_load_types.specs.declared.fault.Fault.TheVariants as fault
use Rattle.mig_answer.specs.declared.verdict.Verdict.{Verdict}
use Rattle.mig_answer.specs.Texts.{Texts}
use Rattle.mig_answer.specs.MultiLoad.{failed}
use Rattle.mig_sources.specs.declared.source.Source.{Source}
use Rattle.mig_sources.specs.declared.source.Source.TheVariants as source
use Rattle.mig_in_place.specs.Answer.{IsInPlaceAnswer}
use Rattle.mig_apart.specs.Claims.{ApartLoad, IsClaimed, StandsFreely}

-- ---- the pages of a packet

-- the place of a page of a packet, by its head: the normal pages come first
abbrev pub page_place : RamTable → ℕ → List ℕ → ℕ → Place
page_place table b head i = place_at b (offset_at head i / table.page_size)

-- A memory was written at most at the places of a packet.
pub record WritesWithin (b : ℕ) (head : List ℕ) (old new : Image) : Type 0 where
  pub same_table : new.table ≡ old.table
  pub elsewhere : (p : Place) → IsPlace old.table p → ((i : ℕ) → i < normal_count head + zero_count head → page_place old.table b head i ≢ p) → content_at new p ≡ content_at old p

-- A memory has zeros at the first places of a packet's pages of zeros.
abbrev pub HasZeros : ℕ → List ℕ → ℕ → Image → Type 0
HasZeros b head count m = (i : ℕ) → i < count → content_at m (page_place m.table b head (normal_count head + i)) ≡ zero_page m.table.page_size

-- what a memory has at the first places of a packet
abbrev pub contents_in : Image → ℕ → List ℕ → ℕ → List (List ℕ)
contents_in m b head count = map (λ i. content_at m (page_place m.table b head i)) (range_with_len 0 count)

-- All places of a packet are claimed.
abbrev pub HasClaimed : ℕ → List ℕ → ApartLoad → Type 0
HasClaimed b head s = (i : ℕ) → i < normal_count head + zero_count head → IsClaimed s (page_place s.load.table b head i)

-- ---- a turn

-- A load that represented some streams with the memory before a turn represents streams with the
-- memory after it.
abbrev pub GoesOn : Image → ApartLoad → Image → ApartLoad → Type 0
GoesOn before old after new = (given : LoadSettings) (uuid : List ℕ) (first : Image) (texts : Texts) → StandsFreely given uuid first texts before old
    → (more : Texts) × StandsFreely given uuid first more after new

-- ---- the verdict

abbrev pub origin_of : Source → Origin
origin_of source.Main = origin.Main
origin_of (source.Channel j) = origin.Channel j

-- the verdict where the connection of a source ended in the pages of a packet
abbrev pub cut_in_a_packet : ℕ → Source → Verdict
cut_in_a_packet round from = failed round (origin_of from) (fault.Channel channel_fault.Truncated)

-- The answer of a load in place on some streams, or the connection of a source ended in the pages
-- of a packet.
abbrev pub IsAnswered : LoadSettings → List ℕ → Image → Image → Verdict → Type 0
IsAnswered given uuid first memory verdict =
    ((texts : Texts) × (rounds : ℕ) × IsInPlaceAnswer given uuid first texts memory rounds verdict) ⊎ ((round : ℕ) × (from : Source) × (verdict ≡ cut_in_a_packet round from))
