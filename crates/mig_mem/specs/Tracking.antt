-- Tracking of the pages that change between images.
use Rattle.std.specs.Prelude.{◌≡◌, ◌≢◌, List, [], ◌∷◌, map, All, Contains, ⊤}
use Rattle.mig_mem.specs.declared.place.Place.{Place}
use Rattle.mig_mem.specs.Place.{IsPlace}
use Rattle.mig_mem.specs.RamTable.{RamTable}
use Rattle.mig_mem.specs.Image.{Page, Image, IsImage, content_at, zero_image}
use Rattle.mig_mem.specs.Round.{round_of, after}

-- an image of a guest at one moment, and the places that are dirty in it
pub record Snapshot : Type 0 where
  pub image : Image
  pub dirty : List Place

-- the images are memories of the table
abbrev pub AreImagesOf : RamTable → List Snapshot → Type 0
AreImagesOf table ss = All (λ s. IsImage s.image × (s.image.table ≡ table)) ss

-- the round of each snapshot
abbrev pub rounds_of : List Snapshot → List (List Page)
rounds_of ss = map (λ s. round_of s.image s.dirty) ss

-- each page that differs from the image before is dirty
abbrev pub HasChanges : Image → Snapshot → Type 0
HasChanges before s = (p : Place) → IsPlace s.image.table p → content_at s.image p ≢ content_at before p → Contains s.dirty p

-- Tracking from an image on is faithful if each snapshot's dirty places have every page that
-- changed since the image before. From a memory of zeros on, the first snapshot's have every page
-- that isn't zeros.
abbrev pub IsFaithful : Image → List Snapshot → Type 0
IsFaithful before [] = ⊤
IsFaithful before (s ∷ ss) = HasChanges before s × IsFaithful s.image ss

-- the image of the last snapshot, or the image before them if there is none
abbrev pub last_image : Image → List Snapshot → Image
last_image before [] = before
last_image before (s ∷ ss) = last_image s.image ss

-- With faithful tracking from a memory of zeros on, the memory after the rounds is the last image.
abbrev pub TrackingGivesLastImage : Type 0
TrackingGivesLastImage = (table : RamTable) (ss : List Snapshot) → AreImagesOf table ss → IsFaithful (zero_image table) ss
    → after table (rounds_of ss) ≡ last_image (zero_image table) ss
