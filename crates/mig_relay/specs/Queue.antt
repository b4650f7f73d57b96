-- The rule of a channel's queue.
use Rattle.std.specs.Prelude.{◌≡◌, ℕ, Bool, true, false, List, [], ◌∷◌, ◌++◌, map}
use mathlib.Core.Option.{some}
use lib.ListN.{get_elem?}
use Rattle.mig_packet.specs.ChannelItems.{ChannelItem}
use Rattle.mig_packet.specs.Reading.{settings}
use Rattle.mig_relay.specs.declared.log.ChannelText.{ChannelText}
use Rattle.mig_relay.specs.declared.log.Log.{Log}
use Rattle.mig_relay.specs.declared.message.Message.{Message}
use Rattle.mig_relay.specs.RelayItems.{with_settings}
use Rattle.mig_relay.specs.Messages.{item_of_message, BeginsMessages}

-- ---- what a pass knows

abbrev pub log : Bool → Bool → ChannelText → List Message → Log
log feeds collects source done = record { feeds = feeds; collects = collects; source = source; done = done }

-- a channel without bytes, before the pass knows one
abbrev pub no_channel_text : ChannelText
no_channel_text = with_settings (settings 4096 [] 0) []

-- the pass before it is split
abbrev pub fresh : Log
fresh = log true true no_channel_text []

-- the pass that pushes
abbrev pub feeding : ChannelText → List Message → Log
feeding source done = log true false source done

-- the pass that pops
abbrev pub collecting : ChannelText → List Message → Log
collecting source done = log false true source done

-- the items that a pass has pushed or popped
abbrev pub items_in : Log → List ChannelItem
items_in v = map (item_of_message v.source) v.done

-- ---- the rule

-- what this pass knows holds, if these passes push and pop
abbrev pub LogHolds : ℕ → ℕ → ChannelText → List Message → List Message → ℕ → Log → Type 0
LogHolds feeder collector source pushed popped pass v =
    (v.feeds ≡ true → (pass ≡ feeder) × (v.source ≡ source) × (v.done ≡ pushed))
    × (v.collects ≡ true → (pass ≡ collector) × (v.source ≡ source) × (v.done ≡ popped))

-- One pass pushes, and one pops. The messages popped, and then those in the queue, are those
-- pushed, which are the first of the channel.
abbrev pub IsInOrder : List Message → List Log → Type 0
IsInOrder items views = (feeder : ℕ) × (collector : ℕ) × (source : ChannelText) × (pushed : List Message) × (popped : List Message)
    × (pushed ≡ popped ++ items) × BeginsMessages source pushed
    × ((pass : ℕ) (v : Log) → get_elem? views pass ≡ some v → LogHolds feeder collector source pushed popped pass v)

-- ---- what the steps promise

abbrev pub TellsPush : Log → Message → Log → Type 0
TellsPush v x w = w ≡ feeding v.source (v.done ++ x ∷ [])

abbrev pub TellsPop : Log → Message → Log → Type 0
TellsPop v x w = (w ≡ collecting v.source (v.done ++ x ∷ [])) × BeginsMessages v.source (v.done ++ x ∷ [])
