-- The reading of a stream: its longest front of complete items without a fault, and its state after
-- it.
use Rattle.std.specs.Prelude.{◌≡◌, ◌≢◌, ◌⊎◌, ℕ, Bool, true, false, if◌then◌else◌, List, [], ◌∷◌, ◌++◌, length, Option, Some, None, ⊤}
use Rattle.std.specs.List.{concat}
use Rattle.mig_mem.specs.RamTable.{RamTable}
use Rattle.mig_stream.specs.declared.item.Frame.{Frame}
use Rattle.mig_stream.specs.declared.item.Frame.TheVariants.{Ram}
use Rattle.mig_stream.specs.declared.item.Mode.{Mode}
use Rattle.mig_stream.specs.declared.item.Due.{Due}
use Rattle.mig_stream.specs.declared.item.Due.TheVariants.{Nothing}
use Rattle.mig_stream.specs.declared.item.StreamState.{StreamState}
use Rattle.mig_stream.specs.declared.item.StreamState.TheVariants.{Reading, Closed, Bad}
use Rattle.mig_stream.specs.declared.fault.StreamFault.{StreamFault}
use Rattle.mig_stream.specs.declared.fault.StreamFault.TheVariants.{Truncated}
use Rattle.mig_stream.specs.PageRecord.{PageRecord}
use Rattle.mig_stream.specs.Progress.{StreamProgress, start, whole_table}
use Rattle.mig_stream.specs.Items.{size, first_fault, is_over, after}

-- these bytes are one complete item
pub record IsItem (page_size : ℕ) (due : Due) (item : List ℕ) : Type 0 where
  pub is_due : due ≢ Nothing
  pub is_whole : length item ≡ size page_size due item

-- each item is complete and without a fault, after the items before it
abbrev pub AreFaultless : StreamProgress → List (List ℕ) → Type 0
AreFaultless c [] = ⊤
AreFaultless c (item ∷ items) = IsItem c.page_size c.due item × (first_fault c item ≡ None) × AreFaultless (after c item) items

abbrev pub after_all : StreamProgress → List (List ℕ) → StreamProgress
after_all c [] = c
after_all c (item ∷ items) = after_all (after c item) items

-- these bytes are complete items without a fault, and lead from here to there
pub record Front (from : StreamProgress) (bytes : List ℕ) (to : StreamProgress) : Type 0 where
  pub items : List (List ℕ)
  pub has_bytes : bytes ≡ concat items
  pub are_faultless : AreFaultless from items
  pub leads_to : to ≡ after_all from items

-- a complete item follows before which RAM is over
abbrev pub IsOver : StreamProgress → List ℕ → Type 0
IsOver c rest = (item more : List ℕ) × (rest ≡ item ++ more) × IsItem c.page_size c.due item × (is_over c item ≡ true)

-- The state of a stream in which these bytes follow a front: closed after its end, or where RAM is
-- over; bad if another complete item with a fault follows; and else not complete.
abbrev pub Ends : StreamProgress → List ℕ → StreamState → Type 0
Ends c rest Closed = (c.due ≡ Nothing) ⊎ IsOver c rest
Ends c rest (Bad fault) =
    (item more : List ℕ) × (rest ≡ item ++ more) × IsItem c.page_size c.due item × (first_fault c item ≡ Some fault) × (is_over c item ≡ false)
Ends c rest Reading = (c.due ≢ Nothing) × ((item more : List ℕ) → rest ≡ item ++ more → IsItem c.page_size c.due item → ⊥)

-- the state of a stream whose next item has this fault
abbrev pub stopped : StreamProgress → List ℕ → StreamFault → StreamState
stopped c item fault = if is_over c item then Closed else Bad fault

-- a stream is read up to `to`, with these bytes left, and has this state
pub record Reads (from : StreamProgress) (text : List ℕ) (to : StreamProgress) (rest : List ℕ) (state : StreamState) : Type 0 where
  pub front : List ℕ
  pub has_text : text ≡ front ++ rest
  pub leads : Front from front to
  pub ends : Ends to rest state

-- The state of a stream that may have ended: if it ended before it was closed, it is cut short.
abbrev pub state_at : Bool → StreamState → StreamState
state_at true Reading = Bad Truncated
state_at true Closed = Closed
state_at true (Bad fault) = Bad fault
state_at false state = state

-- the reading of a stream so far: its table, its complete rounds, and its state
pub record StreamReading : Type 0 where
  pub table : Option RamTable
  pub rounds : List (List PageRecord)
  pub state : StreamState

-- what isn't in the stream: its frame, its mode, the page size, the limit on the table's total, and
-- the most page records of an open round, or None for any number
pub record Settings : Type 0 where
  pub frame : Frame
  pub mode : Mode
  pub page_size : ℕ
  pub limit : ℕ
  pub waiting : Option ℕ

-- as a caller passes them, for RAM's sections alone
abbrev pub settings : Mode → ℕ → ℕ → Settings
settings mode page_size limit = record { frame = Ram; mode = mode; page_size = page_size; limit = limit; waiting = None }

-- these settings, for a stream of this frame
abbrev pub in_frame : Frame → Settings → Settings
in_frame frame given = record given { frame = frame }

-- these settings, with at most this many page records in an open round
abbrev pub with_waiting : Option ℕ → Settings → Settings
with_waiting waiting given = record given { waiting = waiting }

pub record IsReading (given : Settings) (text : List ℕ) (reading : StreamReading) : Type 0 where
  pub to : StreamProgress
  pub rest : List ℕ
  pub reads : Reads (start given.frame given.mode given.page_size given.limit given.waiting) text to rest reading.state
  pub has_table : reading.table ≡ whole_table to
  pub has_rounds : reading.rounds ≡ to.rounds
