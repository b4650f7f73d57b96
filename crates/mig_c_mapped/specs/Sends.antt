-- The send of a guest's memory as a file with mapped-ram, from C: the parts of the file, and the
-- offsets of pages.
use Rattle.std.specs.Prelude.{ℕ, ◌≡◌, ◌≢◌, ◌+◌, ◌-◌, ◌<◌, ◌≤◌, ◌==◌, Bool, false, List, [], ◌∷◌, ◌++◌, length, take, Option, None, Some, if◌then◌else◌, ⊤}
use Rattle.mig_mem.specs.RamTable.{RamTable}
use Rattle.mig_mem.specs.declared.place.Place.{Place}
use Rattle.mig_mem.specs.Place.{IsPlace}
use Rattle.mig_mem.specs.Image.{Image, zero_image, zero_page, with_page}
use Rattle.mig_stream.specs.Format.{most_name_bytes}
use Rattle.mig_stream.specs.Text.{total_bytes}
use Rattle.mig_mapped.specs.declared.fault.MappedFault.TheVariants.{PagesOffset}
use Rattle.mig_mapped.specs.declared.fault.MappedStop.{MappedStop}
use Rattle.mig_mapped.specs.declared.fault.MappedStop.TheVariants as stop
use Rattle.mig_mapped.specs.declared.settings.WordOrder.{WordOrder}
use Rattle.mig_mapped.specs.FaultNumber.{fault_number}
use Rattle.mig_mapped.specs.Block.{mapped_block}
use Rattle.mig_mapped.specs.Front.{IsFront, mapped_front, alone, end_bytes}
use Rattle.mig_mapped.specs.Write.{MappedWriting, written_table, head_offset, offset_at, head_bytes, IsBegun, IsRefused, PutsBit, StandsFor, PartsAreRead}
use Rattle.mig_c_calls.specs.Status.{IsOneOf, done, no_memory, no_page, bad_length}
use Rattle.mig_c_mapped.specs.declared.part.FilePart.{FilePart}
use Rattle.mig_c_mapped.specs.Loads.{order_of}

-- what a send keeps: the bytes before the size list, and the blocks with the bits of the pages
pub record FileInHand : Type 0 where
  pub front : List ℕ
  pub writing : MappedWriting

-- ---- how it begins

-- A send of a table, of whose pages none is in the file yet: all are zeros. The front is that of a
-- machine with this name, and the size list follows it.
pub record IsSent (order : WordOrder) (name : List ℕ) (table : RamTable) (s : FileInHand) : Type 0 where
  pub has_front : s.front ≡ mapped_front (alone name (total_bytes table))
  pub is_front : IsFront (alone name (total_bytes table))
  pub is_begun : IsBegun order (length s.front) table s.writing
  pub are_zeros : StandsFor s.writing (zero_image table)

-- There is no send: the pages would end where no file has bytes, or an allocation was refused.
abbrev pub IsUnsent : WordOrder → List ℕ → RamTable → MappedStop → Type 0
IsUnsent order name table (stop.Fault fault) =
    (fault ≡ PagesOffset) × IsRefused order (length (mapped_front (alone name (total_bytes table)))) table (stop.Fault fault)
IsUnsent order name table stop.NoMemory = ⊤

-- The effect of the call that begins a send: the first thing that is wrong is reported.
pub record OpensSend (table : RamTable) (big_endian : Bool) (name : List ℕ) (status : ℕ) (made : Option FileInHand) : Type 0 where
  pub is_named : IsOneOf (done ∷ no_memory ∷ bad_length ∷ fault_number PagesOffset ∷ []) status
  pub opens : status ≡ done → (s : FileInHand) × (made ≡ Some s) × IsSent (order_of big_endian) name table s
  pub long : status ≡ bad_length → most_name_bytes < length name
  pub short : status ≢ bad_length → length name ≤ most_name_bytes
  pub no_room : status ≡ fault_number PagesOffset → IsUnsent (order_of big_endian) name table (stop.Fault PagesOffset)
  pub none : status ≢ done → made ≡ None

-- ---- pages

-- The bit of a page is set, or cleared for a page of zeros, and the page's offset is reported.
-- Whatever memory the file stood for, it stands for that with the page in it.
pub record MarksPage (p : Place) (has_content : Bool) (status before after : ℕ) (old new : FileInHand) : Type 0 where
  pub is_named : IsOneOf (done ∷ no_page ∷ []) status
  pub is_page : status ≡ done → IsPlace (written_table old.writing) p
  pub missing : status ≡ no_page → IsPlace (written_table old.writing) p → ⊥
  pub marks : status ≡ done → PutsBit old.writing p has_content new.writing
  pub stands : status ≡ done → (m : Image) (content : List ℕ) → StandsFor old.writing m → length content ≡ old.writing.given.page_size
      → (has_content ≡ false → content ≡ zero_page old.writing.given.page_size) → StandsFor new.writing (with_page m p content)
  pub has_offset : status ≡ done → after ≡ offset_at old.writing p
  pub same_front : new.front ≡ old.front
  pub same : status ≢ done → new ≡ old
  pub same_offset : status ≢ done → after ≡ before

-- ---- the parts that aren't pages

-- the number of the last part
abbrev pub last_part : FileInHand → ℕ
last_part s = length s.writing.blocks + 1

-- Part 0 is the front, part 1 + i the head of block i with its bitmap, and the last one what
-- follows the last block's pages.
abbrev pub part_bytes : FileInHand → ℕ → List ℕ
part_bytes s part =
    if part == 0 then s.front
    else if part == last_part s then end_bytes (written_table s.writing)
    else head_bytes s.writing (part - 1) ++ (mapped_block s.writing.blocks (part - 1)).bitmap

abbrev pub part_offset : FileInHand → ℕ → ℕ
part_offset s part = if part == 0 then 0 else head_offset s.writing (part - 1)

-- Some bytes that lie at an offset are copied to the front of a buffer, if it has room for them.
pub record CopiesPart (bytes : List ℕ) (offset status : ℕ) (old new : List ℕ) (at : FilePart) : Type 0 where
  pub is_named : IsOneOf (done ∷ bad_length ∷ []) status
  pub copies : status ≡ done → take (length bytes) new ≡ bytes
  pub has_offset : at.offset ≡ offset
  pub has_len : at.len ≡ length bytes
  pub long : status ≡ bad_length → length old < length bytes
  pub fits : status ≡ done → length bytes ≤ length old
  pub same : status ≢ done → new ≡ old

-- A part of the file is copied out, if there is one, unless an allocation was refused. Each file
-- with all parts and with the pages whose bits are set is read without a fault, and stands for the
-- memory of the pages that were marked.
pub record GivesPart (part status : ℕ) (old new : List ℕ) (before after : FilePart) (s : FileInHand) : Type 0 where
  pub gives : part ≤ last_part s → status ≢ no_memory → CopiesPart (part_bytes s part) (part_offset s part) status old new after
  pub missing : last_part s < part → status ≡ no_page
  pub same : last_part s < part → (new ≡ old) × (after ≡ before)
  pub refused : status ≡ no_memory → (new ≡ old) × (after ≡ before)
  pub are_read : PartsAreRead s.writing
