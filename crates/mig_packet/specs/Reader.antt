-- The state of a reader, and the bytes that it represents.
use Rattle.std.specs.Prelude.{◌≡◌, ◌≢◌, ℕ, ◌+◌, ◌<◌, ◌≤◌, Bool, true, false, List, [], ◌++◌, length, slice_index_or, Option, None}
use Rattle.mig_packet.specs.declared.state.ChannelState.{ChannelState}
use Rattle.mig_packet.specs.declared.state.ChannelState.TheVariants.{Reading}
use Rattle.mig_packet.specs.PageSize.{IsPageSize}
use Rattle.mig_packet.specs.Packet.{IsPacketText}
use Rattle.std.specs.List.{All}
use Rattle.mig_packet.specs.Progress.{ChannelProgress, start, item_len, judged_len, due_fault}
use Rattle.mig_packet.specs.Reading.{Front, Reads, ChannelReading, Settings, IsReading}

-- what a reader holds
pub record Reader : Type 0 where
  -- how far it has read; its rounds are those that were not taken yet
  pub progress : ChannelProgress
  -- the bytes after it: a part of an item
  pub pending : List ℕ
  -- the state of the bytes fed, whether or not the channel has ended
  pub found : ChannelState
  -- how many bytes fed are complete items without a fault
  pub valid_up_to : ℕ
  pub fed : ℕ
  pub ended : Bool

-- These bytes are a part of the next item, not all of it, and no fault of it is known.
pub record IsUnfinished (c : ChannelProgress) (bytes : List ℕ) : Type 0 where
  pub has_no_fault : due_fault c bytes ≡ None
  pub is_short : judged_len c.page_size c.hello ≤ length bytes → length bytes < item_len c.page_size c.hello bytes

-- the bytes are read up to `to`; the rest isn't read, and its pending bytes, a part of an item, are
-- kept
pub record ReadsOn (from : ChannelProgress) (bytes : List ℕ) (to : ChannelProgress) (pending : List ℕ) (left : ℕ) (state : ChannelState) : Type 0 where
  pub rest : List ℕ
  pub reads : Reads from bytes to rest state
  pub has_left : length rest ≡ left
  pub has_rest : state ≡ Reading → rest ≡ pending

-- with rounds that were taken before
abbrev pub with_taken : List (List (List ℕ)) → ChannelProgress → ChannelProgress
with_taken taken c = record c { rounds = taken ++ c.rounds }

-- ---- what a reader represents

-- what a reader was given so far: these bytes, whether the channel was ended, and how many rounds
-- were taken from it
pub record SoFar : Type 0 where
  pub text : List ℕ
  pub ended : Bool
  pub taken : ℕ

-- before the first byte
abbrev pub nothing_yet : SoFar
nothing_yet = record { text = []; ended = false; taken = 0 }

-- one more piece of the channel
abbrev pub with_piece : List ℕ → SoFar → SoFar
with_piece piece so_far = record so_far { text = so_far.text ++ piece }

-- the channel was ended
abbrev pub over : SoFar → SoFar
over so_far = record so_far { ended = true }

-- one more round was taken
abbrev pub one_taken : SoFar → SoFar
one_taken so_far = record so_far { taken = so_far.taken + 1 }

-- A reader represents the bytes fed so far, with these settings. The rounds that were taken come
-- before those that it holds.
pub record Stands (given : Settings) (so_far : SoFar) (r : Reader) : Type 0 where
  pub has_fed : r.fed ≡ length so_far.text
  pub has_ended : r.ended ≡ so_far.ended
  pub rounds : List (List (List ℕ))
  pub has_taken : length rounds ≡ so_far.taken
  pub rest : List ℕ
  pub reads : Reads (start given.page_size given.uuid given.channels given.waiting) so_far.text (with_taken rounds r.progress) rest r.found
  pub has_pending : r.found ≡ Reading → rest ≡ r.pending
  pub has_valid_up_to : r.valid_up_to + length rest ≡ length so_far.text

-- a step of a call: if the reader represented something before, it represents that with the step
-- done
abbrev pub StepsOn : (SoFar → SoFar) → Reader → Reader → Type 0
StepsOn step old new = (given : Settings) (so_far : SoFar) → Stands given so_far old → Stands given (step so_far) new

-- a statement on a reader that depends on nothing else than what it represents
abbrev pub Tells : Reader → (Settings → SoFar → Type 0) → Type 0
Tells r says = (given : Settings) (so_far : SoFar) → Stands given so_far r → says given so_far

-- how many complete rounds wait to be taken
abbrev pub waiting : Reader → ℕ
waiting r = length r.progress.rounds

-- ---- a round that was taken

-- a round: its packets, each as its bytes
pub record RoundOfPackets : Type 0 where
  pub page_size : ℕ
  pub packets : List (List ℕ)

pub record IsPacketRound (page_size : ℕ) (packets : List (List ℕ)) : Type 0 where
  pub has_page_size : IsPageSize page_size
  pub are_packets : All (IsPacketText page_size) packets

-- ---- the reading of bytes (its hello and its rounds don't depend on whether they ended)

-- the state of bytes of a channel that may have ended
abbrev pub HasState : Settings → List ℕ → Bool → ChannelState → Type 0
HasState given text ended state = (reading : ChannelReading) × IsReading given text ended reading × (state ≡ reading.state)

-- the bytes have a fault already: more bytes change nothing
abbrev pub IsFinal : Settings → List ℕ → Type 0
IsFinal given text = (state : ChannelState) × HasState given text false state × (state ≢ Reading)

-- The first n bytes are complete items without a fault.
pub record HasFront (given : Settings) (text : List ℕ) (n : ℕ) : Type 0 where
  pub to : ChannelProgress
  pub front : List ℕ
  pub rest : List ℕ
  pub has_text : text ≡ front ++ rest
  pub has_length : length front ≡ n
  pub leads : Front (start given.page_size given.uuid given.channels given.waiting) front to

-- The channel is read to its first n bytes: these are its longest front of complete items without a
-- fault. If it is bad, the item at fault begins after them.
pub record IsValidUpTo (given : Settings) (text : List ℕ) (n : ℕ) : Type 0 where
  pub to : ChannelProgress
  pub rest : List ℕ
  pub found : ChannelState
  pub reads : Reads (start given.page_size given.uuid given.channels given.waiting) text to rest found
  pub has_length : length reads.front ≡ n

-- the id in its hello
abbrev pub HasHello : Settings → List ℕ → Option ℕ → Type 0
HasHello given text hello = (reading : ChannelReading) × IsReading given text false reading × (hello ≡ reading.hello)

-- the complete round with a number
abbrev pub HasRound : Settings → List ℕ → ℕ → List (List ℕ) → Type 0
HasRound given text i round =
    (reading : ChannelReading) × IsReading given text false reading
    × (i < length reading.rounds) × (slice_index_or reading.rounds i [] ≡ round)
