-- The streams of a load on several channels so far, the main stream and the channels, and their
-- readings.
use Rattle.std.specs.Prelude.{ℕ, ◌≡◌, Bool, true, false, List, [], ◌++◌, length, map, replicate}
use Rattle.std.specs.List.{AllZip}
use Rattle.mig_stream.specs.Reading as stream
use Rattle.mig_packet.specs.Reading as channel
use Rattle.mig_load_types.specs.Settings.{main_of, channel_of}
use Rattle.mig_load_types.specs.declared.settings.LoadSettings.{LoadSettings}

-- ---- streams

-- a source's bytes so far, and whether it has ended
pub record Text : Type 0 where
  pub bytes : List ℕ
  pub ended : Bool

pub record Texts : Type 0 where
  pub main : Text
  pub channels : List Text

-- a stream without bytes yet
abbrev pub no_text : Text
no_text = record { bytes = []; ended = false }

abbrev pub no_texts : ℕ → Texts
no_texts channels = record { main = no_text; channels = replicate channels no_text }

-- the stream with one more piece
abbrev pub with_piece : List ℕ → Text → Text
with_piece piece text = record text { bytes = text.bytes ++ piece }

-- the stream, ended
abbrev pub over : Text → Text
over text = record text { ended = true }

abbrev pub ended_text : List ℕ → Text
ended_text bytes = record { bytes = bytes; ended = true }

abbrev pub ended_texts : List ℕ → List (List ℕ) → Texts
ended_texts main channels = record { main = ended_text main; channels = map ended_text channels }

-- ---- their readings

-- the readings of the main stream and the channels
pub record Readings : Type 0 where
  pub main : stream.StreamReading
  pub channels : List channel.ChannelReading

-- the reading of a main stream, ended or not
pub record IsMainReading (given : LoadSettings) (text : Text) (reading : stream.StreamReading) : Type 0 where
  pub found : stream.StreamReading
  pub is_reading : stream.IsReading (main_of given) text.bytes found
  pub has_end : reading ≡ record found { state = stream.state_at text.ended found.state }

-- These are the readings of the streams, with these settings and this UUID. As many channels are
-- expected as there are streams of channels.
pub record AreReadings (given : LoadSettings) (uuid : List ℕ) (texts : Texts) (readings : Readings) : Type 0 where
  pub has_main : IsMainReading given texts.main readings.main
  pub has_channels : AllZip (λ (text : Text) (reading : channel.ChannelReading). channel.IsReading (channel_of given uuid (length texts.channels)) text.bytes text.ended reading)
      texts.channels readings.channels
