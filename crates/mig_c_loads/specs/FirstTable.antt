-- The table of a stream, read from its first bytes: what the call does, by its status.
use Rattle.std.specs.Prelude.{◌≡◌, ◌≢◌, ◌≤◌, ◌<◌, ◌^◌, ℕ, List, [], ◌∷◌, length, take, false, Option, None, Some}
use Rattle.mig_mem.specs.RamTable.{RamTable, block}
use Rattle.mig_mem.specs.PageSize.{IsPageSize}
use Rattle.mig_stream.specs.declared.item.Frame.{Frame}
use Rattle.mig_stream.specs.declared.item.Mode.TheVariants.{Single}
use Rattle.mig_stream.specs.declared.item.StreamState.{StreamState}
use Rattle.mig_stream.specs.declared.item.StreamState.TheVariants.{Reading, Bad}
use Rattle.mig_stream.specs.FaultNumber.{fault_number}
use Rattle.mig_stream.specs.Reading.{Settings, settings, in_frame, with_waiting}
use Rattle.mig_stream.specs.Reader.{HasTable, HasState, IsValidUpTo}
use Rattle.mig_c_calls.specs.Blocks.{named}
use Rattle.mig_c_calls.specs.declared.block.NamedBlock.{NamedBlock}
use Rattle.mig_c_calls.specs.Status.{IsOneOf, done, running, no_memory, no_page, bad_page_size, bad_frame}
use Rattle.mig_c_loads.specs.Frames.{frame_of}

-- A table stands before the first page record, so what a stream's sections may hold doesn't count.
abbrev pub table_settings : Frame → ℕ → Settings
table_settings frame page_size = with_waiting None (in_frame frame (settings Single page_size (2 ^ 40)))

-- Some of the first bytes were read: up to the table or to a fault, or else all of them. The table,
-- the state and the bytes before the fault are those of the stream so far.
pub record FindsTable (given : Settings) (bytes : List ℕ) (found : Option RamTable) (state : StreamState) (valid : ℕ) : Type 0 where
  pub read : ℕ
  pub is_part : read ≤ length bytes
  pub has_table : HasTable given (take read bytes) found
  pub has_state : HasState given (take read bytes) false state
  pub has_valid : IsValidUpTo given (take read bytes) valid
  pub goes_on : found ≡ None → state ≡ Reading → read ≡ length bytes

-- the status of what was found: the table is there, or the stream has a fault before it, or more
-- bytes are needed
abbrev pub status_of : Option RamTable → StreamState → ℕ
status_of (Some table) state = done
status_of None (Bad fault) = fault_number fault
status_of None state = running

-- The table is made if the first bytes have it. C sees how many of the bytes read are complete
-- items without a fault: a fault's item begins after them.
pub record MakesFirst (page_size frame : ℕ) (bytes : List ℕ) (status before after : ℕ) (made : Option RamTable) : Type 0 where
  pub wrong_size : status ≡ bad_page_size → IsPageSize page_size → ⊥
  pub no_frame : status ≡ bad_frame → frame_of frame ≡ None
  pub finds : status ≢ bad_page_size → status ≢ bad_frame → status ≢ no_memory
      → (f : Frame) × (state : StreamState) × (frame_of frame ≡ Some f) × FindsTable (table_settings f page_size) bytes made state after × (status ≡ status_of made state)
  pub none : status ≢ done → made ≡ None
  pub same_size : status ≡ bad_page_size → after ≡ before
  pub same_frame : status ≡ bad_frame → after ≡ before
  pub same_memory : status ≡ no_memory → after ≡ before

-- A block of a table is read: its id, then zeros, and its number of pages.
pub record GivesTableBlock (i status : ℕ) (old new : NamedBlock) (table : RamTable) : Type 0 where
  pub is_named : IsOneOf (done ∷ no_page ∷ []) status
  pub gives : status ≡ done → new ≡ named (block table.blocks i)
  pub there : status ≡ done → i < length table.blocks
  pub missing : status ≡ no_page → length table.blocks ≤ i
  pub same : status ≢ done → new ≡ old
