-- The status of a source of a load, the main stream or a channel, at a round, by its reading.
use Rattle.std.specs.Prelude.{ℕ, Bool, true, false, nat_lt, ◌==◌, if◌then◌else◌, length, Option, Some, None}
use Rattle.mig_stream.specs.declared.item.StreamState.{StreamState}
use Rattle.mig_stream.specs.declared.item.StreamState.TheVariants as stream_state
use Rattle.mig_stream.specs.Reading.{StreamReading}
use Rattle.mig_packet.specs.declared.state.ChannelState.{ChannelState}
use Rattle.mig_packet.specs.declared.state.ChannelState.TheVariants as channel_state
use Rattle.mig_packet.specs.Reading.{ChannelReading}
use Rattle.mig_load_types.specs.declared.fault.Fault.{Fault}
use Rattle.mig_load_types.specs.declared.fault.Fault.TheVariants as fault
use Rattle.mig_answer.specs.declared.status.Status.{Status}
use Rattle.mig_answer.specs.declared.status.Status.TheVariants.{Whole, Clean, Bad, Pending}

-- the status of a stream after its complete rounds
abbrev pub stream_end : StreamState → Status
stream_end stream_state.Reading = Pending
stream_end stream_state.Closed = Clean
stream_end (stream_state.Bad f) = Bad (fault.Stream f)

abbrev pub channel_end : ChannelState → Status
channel_end channel_state.Reading = Pending
channel_end channel_state.Closed = Clean
channel_end (channel_state.Bad f) = Bad (fault.Channel f)

-- The status at round k, from 0, of a source with `count` complete rounds, and its status after
-- them: it has round k, or it has exactly the k rounds before. A source with fewer rounds counts as
-- pending; at the first round that doesn't pass there is none.
abbrev pub status_at : ℕ → ℕ → Status → Status
status_at k rounds end = if nat_lt k rounds then Whole else if k == rounds then end else Pending

abbrev pub main_status : ℕ → StreamReading → Status
main_status k reading = status_at k (length reading.rounds) (stream_end reading.state)

abbrev pub channel_status : ℕ → ChannelReading → Status
channel_status k reading = status_at k (length reading.rounds) (channel_end reading.state)

-- ---- which status it is

abbrev pub is_whole : Status → Bool
is_whole Whole = true
is_whole Clean = false
is_whole (Bad f) = false
is_whole Pending = false

abbrev pub is_clean : Status → Bool
is_clean Whole = false
is_clean Clean = true
is_clean (Bad f) = false
is_clean Pending = false

abbrev pub is_pending : Status → Bool
is_pending Whole = false
is_pending Clean = false
is_pending (Bad f) = false
is_pending Pending = true

abbrev pub fault_of : Status → Option Fault
fault_of Whole = None
fault_of Clean = None
fault_of (Bad f) = Some f
fault_of Pending = None
