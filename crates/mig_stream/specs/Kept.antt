-- The pages that a reader keeps.
use Rattle.std.specs.Prelude.{ℕ, ◌≡◌, ◌-◌, ◌<◌, ◌≤◌, ◌^◌, List, [], ◌∷◌, ◌++◌, length, map, take, drop, slice_index_or, Option, Some, None, ⊤}
use Rattle.mig_mem.specs.declared.place.Place.{Place}
use Rattle.mig_mem.specs.Place.{place_at}
use Rattle.mig_stream.specs.declared.item.Due.{Due}
use Rattle.mig_stream.specs.declared.item.Due.TheVariants.{Content}
use Rattle.mig_stream.specs.declared.piece.Piece.{Piece}
use Rattle.mig_stream.specs.declared.piece.Piece.TheVariants.{Passing, Staying}
use Rattle.mig_stream.specs.declared.record.Span.{Span}
use Rattle.mig_stream.specs.declared.record.Record.{Record}
use Rattle.mig_stream.specs.declared.record.Record.TheVariants.{Zeros, Kept, Behind, Lent}
use Rattle.mig_stream.specs.PageRecord.{PageRecord}

abbrev pub bytes_of : Piece → List ℕ
bytes_of (Passing bytes) = bytes.now
bytes_of (Staying bytes) = bytes.now

-- ---- records and their buffers: the bytes of a record may be in the buffer of one before it

abbrev pub buffer_of : {A : Type 0} → Record A → List ℕ
buffer_of (Kept block page end buffer) = buffer.value.items
buffer_of other = []

abbrev pub buffers_of_records : {A : Type 0} → List (Record A) → List (List ℕ)
buffers_of_records records = map (λ r. buffer_of r) records

-- the bytes of a span, by the buffers of the records
abbrev pub bytes_at : List (List ℕ) → Span → List ℕ
bytes_at buffers s = take (s.end - s.start) (drop s.start (slice_index_or buffers s.owner []))

pub record IsWithin (buffers : List (List ℕ)) (s : Span) : Type 0 where
  pub has_owner : s.owner < length buffers
  pub has_order : s.start ≤ s.end
  pub has_bytes : s.end ≤ length (slice_index_or buffers s.owner [])

abbrev pub place_of : {A : Type 0} → Record A → Place
place_of (Zeros block page) = place_at block page
place_of (Kept block page end buffer) = place_at block page
place_of (Behind block page span) = place_at block page
place_of (Lent block page bytes) = place_at block page

-- the content of a record's page, by the buffers of the records before it
abbrev pub content_in : {A : Type 0} → List (List ℕ) → Record A → Option (List ℕ)
content_in buffers (Zeros block page) = None
content_in buffers (Kept block page end buffer) = Some (take end buffer.value.items)
content_in buffers (Behind block page span) = Some (bytes_at buffers span)
content_in buffers (Lent block page bytes) = Some bytes.now

abbrev pub record_in : {A : Type 0} → List (List ℕ) → Record A → PageRecord
record_in buffers r = record { place = place_of r; content = content_in buffers r }

-- the bytes of the record are there
abbrev pub IsHeld : {A : Type 0} → List (List ℕ) → Record A → Type 0
IsHeld buffers (Kept block page end buffer) = end ≤ length buffer.value.items
IsHeld buffers (Behind block page span) = IsWithin buffers span
IsHeld buffers other = ⊤

-- A record whose buffer has more bytes after those it had, and whose content is as it was.
pub record IsGrown {A : Type 0} (old new : Record A) (more : List ℕ) : Type 0 where
  pub has_buffer : buffer_of new ≡ buffer_of old ++ more
  pub says_the_same : (buffers : List (List ℕ)) → IsHeld buffers old → IsHeld buffers new × (record_in buffers new ≡ record_in buffers old)

-- records that follow others with these buffers
abbrev pub records_after : {A : Type 0} → List (List ℕ) → List (Record A) → List PageRecord
records_after buffers [] = []
records_after buffers (r ∷ rs) = record_in buffers r ∷ records_after (buffers ++ buffer_of r ∷ []) rs

abbrev pub AreHeldAfter : {A : Type 0} → List (List ℕ) → List (Record A) → Type 0
AreHeldAfter buffers [] = ⊤
AreHeldAfter buffers (r ∷ rs) = IsHeld buffers r × AreHeldAfter (buffers ++ buffer_of r ∷ []) rs

-- The number of the block fits one byte, and the number of the page four. That holds in each table
-- that a reader accepts.
abbrev pub IsShort : Place → Type 0
IsShort p = (p.block < 2 ^ 8) × (p.page < 2 ^ 32)

-- the place of the next page, if there is one
abbrev pub HasShortPlace : Due → Type 0
HasShortPlace (Content filling place) = IsShort place
HasShortPlace due = ⊤
