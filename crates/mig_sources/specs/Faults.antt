-- What the bytes of one source say by themselves, whatever other sources have.
use Rattle.std.specs.Prelude.{ℕ, ◌≡◌, List, length, map, get_or, Option, None, Some}
use Rattle.mig_stream.specs.declared.item.StreamState.{StreamState}
use Rattle.mig_stream.specs.Reading.{Settings as StreamSettings}
use Rattle.mig_stream.specs.Reader as stream
use Rattle.mig_packet.specs.declared.state.ChannelState.{ChannelState}
use Rattle.mig_packet.specs.Reading.{Settings as ChannelSettings}
use Rattle.mig_packet.specs.Reader as channel
use Rattle.mig_load_types.specs.Settings.{main_of, channel_of}
use Rattle.mig_load_types.specs.declared.settings.LoadSettings.{LoadSettings}
use Rattle.mig_load_types.specs.declared.fault.Fault.{Fault}
use Rattle.mig_answer.specs.Status.{stream_end, channel_end, fault_of}
use Rattle.mig_answer.specs.Texts.{Text, Texts, Readings, AreReadings, no_text}
use Rattle.mig_sources.specs.declared.source.Source.{Source}
use Rattle.mig_sources.specs.declared.source.Source.TheVariants as source

-- ---- their fault

-- none is there, or the first
abbrev pub fault_in : Readings → Source → Option Fault
fault_in readings source.Main = fault_of (stream_end readings.main.state)
fault_in readings (source.Channel j) = get_or (map (λ c. fault_of (channel_end c.state)) readings.channels) j None

-- a source's own bytes have this fault, or none
abbrev pub HasFault : LoadSettings → List ℕ → Texts → Source → Option Fault → Type 0
HasFault given uuid texts from found = (readings : Readings) × AreReadings given uuid texts readings × (found ≡ fault_in readings from)

-- that of a main stream, and that of a channel, by their bytes alone
abbrev pub HasMainFault : StreamSettings → Text → Option Fault → Type 0
HasMainFault given text found = (state : StreamState) × stream.HasState given text.bytes text.ended state × (found ≡ fault_of (stream_end state))

abbrev pub HasChannelFault : ChannelSettings → Text → Option Fault → Type 0
HasChannelFault given text found = (state : ChannelState) × channel.HasState given text.bytes text.ended state × (found ≡ fault_of (channel_end state))

-- ---- up to which byte they are valid

-- a source is valid up to there
abbrev pub IsSourceValidUpTo : LoadSettings → List ℕ → Texts → Source → Option ℕ → Type 0
IsSourceValidUpTo given uuid texts from None = ⊥
IsSourceValidUpTo given uuid texts source.Main (Some n) = stream.IsValidUpTo (main_of given) texts.main.bytes n
IsSourceValidUpTo given uuid texts (source.Channel j) (Some n) =
    channel.IsValidUpTo (channel_of given uuid (length texts.channels)) (get_or texts.channels j no_text).bytes n
