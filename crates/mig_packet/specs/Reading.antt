-- The reading of a channel's bytes: their longest front of a hello and packets, and the channel's
-- state after it.
use Rattle.std.specs.Prelude.{◌≡◌, ℕ, Bool, true, false, List, [], ◌∷◌, ◌++◌, length, Option, Some, None, ⊤}
use Rattle.std.specs.List.{concat}
use Rattle.mig_packet.specs.declared.state.ChannelState.{ChannelState}
use Rattle.mig_packet.specs.declared.state.ChannelState.TheVariants.{Reading, Closed, Bad}
use Rattle.mig_packet.specs.declared.fault.ChannelFault.TheVariants.{Truncated, Unsynced}
use Rattle.mig_packet.specs.Progress.{ChannelProgress, start, item_len, first_fault, due_fault, after}

-- these bytes are one complete item
abbrev pub IsItem : ℕ → Option ℕ → List ℕ → Type 0
IsItem page_size hello item = length item ≡ item_len page_size hello item

-- each item is complete and without a fault, after the items before it
abbrev pub AreFaultless : ChannelProgress → List (List ℕ) → Type 0
AreFaultless c [] = ⊤
AreFaultless c (item ∷ items) = IsItem c.page_size c.hello item × (first_fault c item ≡ None) × AreFaultless (after c item) items

abbrev pub after_all : ChannelProgress → List (List ℕ) → ChannelProgress
after_all c [] = c
after_all c (item ∷ items) = after_all (after c item) items

-- these bytes are complete items without a fault, and lead from here to there
pub record Front (from : ChannelProgress) (bytes : List ℕ) (to : ChannelProgress) : Type 0 where
  pub items : List (List ℕ)
  pub has_bytes : bytes ≡ concat items
  pub are_faultless : AreFaultless from items
  pub leads_to : to ≡ after_all from items

-- The state of a channel in which these bytes follow a front: bad if a fault is known, and
-- otherwise, if no complete item follows, to be read on. No byte closes it.
abbrev pub Ends : ChannelProgress → List ℕ → ChannelState → Type 0
Ends c rest Reading = (due_fault c rest ≡ None) × ((item more : List ℕ) → rest ≡ item ++ more → IsItem c.page_size c.hello item → ⊥)
Ends c rest Closed = ⊥
Ends c rest (Bad fault) = due_fault c rest ≡ Some fault

-- Bytes are read from `from` to `to`, with these bytes left, and the channel has this state. If it
-- is bad, the bytes from its faulty item on are left.
pub record Reads (from : ChannelProgress) (text : List ℕ) (to : ChannelProgress) (rest : List ℕ) (state : ChannelState) : Type 0 where
  pub front : List ℕ
  pub has_text : text ≡ front ++ rest
  pub leads : Front from front to
  pub ends : Ends to rest state

-- The state of a channel without a fault that has ended: closed if it has a hello and complete
-- rounds, and nothing more.
abbrev pub state_at_end : Option ℕ → List ℕ → List (List ℕ) → ChannelState
state_at_end None rest packets = Bad Truncated
state_at_end (Some id) (byte ∷ rest) packets = Bad Truncated
state_at_end (Some id) [] (packet ∷ packets) = Bad Unsynced
state_at_end (Some id) [] [] = Closed

-- the state of a channel that is read up to here, and may have ended
abbrev pub state_at : Bool → ChannelProgress → List ℕ → ChannelState → ChannelState
state_at true to rest Reading = state_at_end to.hello rest to.packets
state_at true to rest Closed = Closed
state_at true to rest (Bad fault) = Bad fault
state_at false to rest state = state

-- the reading so far: the id in the hello, the complete rounds, each as its packets' bytes, and the
-- channel's state
pub record ChannelReading : Type 0 where
  pub hello : Option ℕ
  pub rounds : List (List (List ℕ))
  pub state : ChannelState

-- what isn't in the bytes: the page size, the UUID, the number of channels, and the limit on what
-- waits in the open round, or None for no limit
pub record Settings : Type 0 where
  pub page_size : ℕ
  pub uuid : List ℕ
  pub channels : ℕ
  pub waiting : Option ℕ

-- as a caller passes them
abbrev pub settings : ℕ → List ℕ → ℕ → Settings
settings page_size uuid channels = record { page_size = page_size; uuid = uuid; channels = channels; waiting = None }

-- these settings, with a limit on what may wait
abbrev pub with_waiting : Option ℕ → Settings → Settings
with_waiting waiting given = record given { waiting = waiting }

-- This is the reading of a channel's bytes, ended or not, with these settings.
pub record IsReading (given : Settings) (text : List ℕ) (ended : Bool) (reading : ChannelReading) : Type 0 where
  pub to : ChannelProgress
  pub rest : List ℕ
  pub found : ChannelState
  pub reads : Reads (start given.page_size given.uuid given.channels given.waiting) text to rest found
  pub has_hello : reading.hello ≡ to.hello
  pub has_rounds : reading.rounds ≡ to.rounds
  pub has_state : reading.state ≡ state_at ended to rest found
