-- A load of one stream into blocks of C: what each call does, by its status. The blocks are passed
-- to the call that feeds it, as the call before left them.
use Rattle.std.specs.Prelude.{◌≡◌, ◌≢◌, ◌⊎◌, ◌<◌, ◌≤◌, ◌+◌, ◌*◌, ◌^◌, ◌++◌, ℕ, Bool, true, false, List, [], ◌∷◌, length, take, drop, Option, None, Some, IsTrue, IsFalse, Result, ⊤}
use Rattle.mig_mem.specs.RamTable.{RamTable}
use Rattle.mig_mem.specs.Image.{Image}
use Rattle.mig_mem.specs.Lent.{FitTable, lent_image}
use Rattle.mig_stream.specs.declared.item.Frame.{Frame}
use Rattle.mig_load_types.specs.declared.settings.LoadSettings.{LoadSettings}
use Rattle.mig_load_types.specs.declared.fault.LoadFault.{LoadFault}
use Rattle.mig_single_load.specs.SingleLoad.{no_memory_at}
use Rattle.mig_single_load.specs.InPlace.{HasVerdictOnto, HasMissingOnto}
use Rattle.mig_single_load.specs.LoadInPlace.{LoadInPlace, LoadsInPlace, LacksMemory, HasClosedAtOnto, IsValidUpToOnto}
use Rattle.mig_c_loads.specs.declared.fault.FoundFault.{FoundFault}
use Rattle.mig_c_calls.specs.Status.{IsOneOf, done, running, no_memory, is_over, too_long, bad_length, bad_frame}
use Rattle.mig_c_loads.specs.Frames.{frame_of, load_settings}
use Rattle.mig_c_loads.specs.Found.{seen_so_far, if_told}

-- ---- the calls

-- The settings of a load into blocks of this table. The limit of its stream is the largest one:
-- what the table has is known, and another table is refused.
abbrev pub settings_into : RamTable → Frame → Option ℕ → LoadSettings
settings_into table frame waiting = load_settings table.page_size (2 ^ 40) waiting frame

-- With any blocks that fit this table it was fed nothing yet, of a stream that is read in this
-- frame, and may have so many page records in a section.
pub record Begins (table : RamTable) (frame : Frame) (waiting : Option ℕ) (s : LoadInPlace) : Type 0 where
  pub same_table : s.table ≡ table
  pub none_fed : s.fed ≡ 0
  pub goes_on : IsFalse s.ended
  pub loads : (blocks : List (List ℕ)) → FitTable table blocks
      → LoadsInPlace (lent_image table blocks) (settings_into table frame waiting) (lent_image table blocks) s [] false

abbrev pub Opens : Option RamTable → Option Frame → Option ℕ → Option LoadInPlace → Type 0
Opens None frame waiting made = ⊤
Opens (Some table) None waiting made = ⊥
Opens (Some table) (Some frame) waiting None = ⊥
Opens (Some table) (Some frame) waiting (Some s) = Begins table frame waiting s

-- What `new` does, with a table and the number of a frame.
pub record OpensInPlace (table : Option RamTable) (frame : ℕ) (waiting : Option ℕ) (status : ℕ) (made : Option LoadInPlace) : Type 0 where
  pub is_named : IsOneOf (done ∷ no_memory ∷ bad_frame ∷ []) status
  pub opens : status ≡ done → Opens table (frame_of frame) waiting made
  pub no_frame : status ≡ bad_frame → frame_of frame ≡ None
  pub has_frame : status ≢ bad_frame → frame_of frame ≢ None

-- Whether a piece of `len` bytes may be fed into these blocks, for a stream of this table of which
-- `fed` bytes were fed, and which may have ended. With three of the statuses it may not, for the
-- first reason that applies.
pub record MayFeed (len : ℕ) (blocks : List (List ℕ)) (status : ℕ) (table : RamTable) (fed : ℕ) (ended : Bool) : Type 0 where
  pub over : status ≡ is_over → IsTrue ended
  pub goes_on : status ≢ is_over → IsFalse ended
  pub long : status ≡ too_long → 2 ^ 63 ≤ fed + len
  pub short : status ≢ is_over → status ≢ too_long → fed + len < 2 ^ 63
  pub unfit : status ≡ bad_length → FitTable table blocks → ⊥
  pub fits : status ≢ is_over → status ≢ too_long → status ≢ bad_length → FitTable table blocks

-- Why a piece isn't fed, or DONE.
abbrev pub RefusesPiece : ℕ → List (List ℕ) → ℕ → RamTable → ℕ → Bool → Type 0
RefusesPiece len blocks status table fed ended = IsOneOf (done ∷ is_over ∷ too_long ∷ bad_length ∷ []) status × MayFeed len blocks status table fed ended

-- The state after a piece was fed into a memory. The memory has all page records of the stream so
-- far; or an allocation was refused, and it has the first of them. A load that failed so before
-- takes every piece, and only counts its bytes.
pub record FeedsMemory (piece : List ℕ) (before after : Image) (status : ℕ) (old new : LoadInPlace) : Type 0 where
  pub is_named : IsOneOf (done ∷ no_memory ∷ []) status
  pub takes : status ≡ done → (given : LoadSettings) (first : Image) (text : List ℕ) → LoadsInPlace before given first old text false
      → LoadsInPlace after given first new (text ++ piece) false
  pub fails : status ≡ no_memory → (given : LoadSettings) (first : Image) (text : List ℕ) → LoadsInPlace before given first old text false
      → LacksMemory after given first new (text ++ piece) false
  pub has_failed : (given : LoadSettings) (first : Image) (text : List ℕ) → LacksMemory before given first old text false
      → LacksMemory after given first new (text ++ piece) false × (status ≡ done)
  pub counted : new.fed ≡ old.fed + length piece
  pub goes_on : IsFalse new.ended
  pub same_table : new.table ≡ old.table

-- What `feed` does with blocks that hold these bytes. A refused allocation leaves all as it was, or
-- the load has failed for good.
pub record FeedsInPlace (piece : List ℕ) (before after : List (List ℕ)) (status : ℕ) (old new : LoadInPlace) : Type 0 where
  pub is_named : IsOneOf (done ∷ no_memory ∷ is_over ∷ too_long ∷ bad_length ∷ []) status
  pub may_feed : MayFeed (length piece) before status old.table old.fed old.ended
  pub feeds : status ≡ done → FeedsMemory piece (lent_image old.table before) (lent_image old.table after) done old new
  pub runs_out : status ≡ no_memory → ((new ≡ old) × (after ≡ before))
      ⊎ FeedsMemory piece (lent_image old.table before) (lent_image old.table after) no_memory old new
  pub same : status ≢ done → status ≢ no_memory → (new ≡ old) × (after ≡ before)
  pub same_table : new.table ≡ old.table
  pub still_fit : FitTable old.table before → FitTable old.table after

-- What `end` does. A second call changes nothing.
pub record EndsInPlace (old new : LoadInPlace) : Type 0 where
  pub value : new ≡ record old { ended = true }
  pub loads : (memory : Image) (given : LoadSettings) (first : Image) (text : List ℕ) (ended : Bool) → LoadsInPlace memory given first old text ended
      → LoadsInPlace memory given first new text true
  pub has_failed : (memory : Image) (given : LoadSettings) (first : Image) (text : List ℕ) (ended : Bool) → LacksMemory memory given first old text ended
      → LacksMemory memory given first new text true

-- C sees the verdict on the stream so far; where it isn't over and has no fault so far, that more
-- of it is needed. After a refused allocation that is the verdict.
pub record TellsVerdict (found : FoundFault) (s : LoadInPlace) : Type 0 where
  pub loads : (memory : Image) (given : LoadSettings) (first : Image) (text : List ℕ) (ended : Bool) → LoadsInPlace memory given first s text ended
      → (verdict : Result ⊤ LoadFault) × HasVerdictOnto given first text verdict × (found ≡ seen_so_far ended verdict)
  pub has_failed : (memory : Image) (given : LoadSettings) (first : Image) (text : List ℕ) (ended : Bool) → LacksMemory memory given first s text ended
      → found ≡ seen_so_far ended (no_memory_at s.rounds)

-- C sees how many of the bytes that were fed the stream has, once it is closed; before that the
-- number stays.
pub record TellsClosedAt (status before after : ℕ) (s : LoadInPlace) : Type 0 where
  pub is_named : IsOneOf (done ∷ running ∷ []) status
  pub closed : status ≡ done → (memory : Image) (given : LoadSettings) (first : Image) (text : List ℕ) (ended : Bool)
      → LoadsInPlace memory given first s text ended → HasClosedAtOnto given first text (Some after)
  pub not_closed : status ≡ running → (memory : Image) (given : LoadSettings) (first : Image) (text : List ℕ) (ended : Bool)
      → LoadsInPlace memory given first s text ended → HasClosedAtOnto given first text None
  pub has_failed : (memory : Image) (given : LoadSettings) (first : Image) (text : List ℕ) (ended : Bool) → LacksMemory memory given first s text ended
      → status ≡ running
  pub same : status ≢ done → after ≡ before

-- C sees how many of the bytes that were fed are complete items without a fault: a fault's item
-- begins after them. It isn't reported of a stream of another table, nor after a refused
-- allocation.
pub record TellsValidUpTo (told : Bool) (before after : ℕ) (s : LoadInPlace) : Type 0 where
  pub loads : (memory : Image) (given : LoadSettings) (first : Image) (text : List ℕ) (ended : Bool) → LoadsInPlace memory given first s text ended
      → IsValidUpToOnto given first text (if_told told after)
  pub has_failed : (memory : Image) (given : LoadSettings) (first : Image) (text : List ℕ) (ended : Bool) → LacksMemory memory given first s text ended
      → IsFalse told
  pub same : IsFalse told → after ≡ before

-- ---- the inside: a page in the bytes of its block

-- the bytes of a block with other content at one of its pages
abbrev pub with_content : ℕ → List ℕ → ℕ → List ℕ → List ℕ
with_content size bytes page content = take (page * size) bytes ++ content ++ drop (page * size + size) bytes

-- C sees how many pages of the blocks no record of the stream so far named.
abbrev pub TellsMissing : ℕ → LoadInPlace → Type 0
TellsMissing missing s = (memory : Image) (given : LoadSettings) (first : Image) (text : List ℕ) (ended : Bool)
    → LoadsInPlace memory given first s text ended → HasMissingOnto given first text missing
