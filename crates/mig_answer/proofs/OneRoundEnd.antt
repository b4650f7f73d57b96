-- Streams aren't done by both ends of a main stream's rounds.
use Rattle.std.proofs.Common.{ℕ, ◌≡◌, ◌≤◌, true, List, [], ◌∷◌, length, sym, ap, ◌∙◌, arith}
use Rattle.std.specs.List.{list_all}
use Rattle.std.proofs.lemmas.Bool.{and_parts}
use Rattle.std.proofs.lemmas.Slice.Zip.{AllZip-long}
use Rattle.mig_stream.specs.declared.item.StreamState.TheVariants.{Closed}
use Rattle.mig_stream.specs.Reading.{StreamReading}
use Rattle.mig_stream.proofs.MoreRounds.{sections_are_more}
use Rattle.mig_packet.specs.Reading.{Settings, ChannelReading, IsReading}
use Rattle.mig_load_types.specs.Settings.{main_of, channel_of}
use Rattle.mig_load_types.specs.declared.settings.LoadSettings.{LoadSettings}
use Rattle.mig_load_types.specs.declared.settings.RoundEnd.TheVariants.{Flush, Eos}
use Rattle.mig_answer.specs.Status.{stream_end, channel_end, is_clean}
use Rattle.mig_answer.specs.Texts.{Text, IsMainReading}
use Rattle.mig_answer.specs.MultiLoad.{Standing, main_at, channels_at}
use Rattle.mig_answer.specs.Law.{ending, DoneByOneRoundEnd}
use Rattle.mig_answer.proofs.Statuses.{clean_at, stream_closed}
use Rattle.mig_answer.proofs.OneAnswer.{channels_are}
use Rattle.mig_answer.proofs.Never.{done_is_clean}

-- the main stream of streams that are done is closed, with the rounds counted
record IsClosedAt (k : ℕ) (found : StreamReading) : Type 0 where
  has_rounds : k ≡ length found.rounds
  is_closed : found.state ≡ Closed

main_closed : (given : LoadSettings) (k : ℕ) (text : Text) (reading : StreamReading) (is : IsMainReading given text reading)
    → is_clean (main_at k (record { main = reading; channels = [] })).status ≡ true → IsClosedAt k is.found
main_closed given k text reading is clean =
    let at = clean_at k (length reading.rounds) (stream_end reading.state) clean in
    record {
      has_rounds = at.0 ∙ ap (λ (r : StreamReading). length r.rounds) is.has_end;
      is_closed = stream_closed text.ended is.found.state (sym (ap (λ (r : StreamReading). is_clean (stream_end r.state)) is.has_end) ∙ at.1);
    }

-- and its first channel has as many
abbrev first_rounds : List ChannelReading → ℕ
first_rounds [] = 0
first_rounds (reading ∷ readings) = length reading.rounds

channel_rounds : (k : ℕ) (main : StreamReading) (readings : List ChannelReading) → 1 ≤ length readings
    → list_all (λ (s : Standing). is_clean s.status) (channels_at k (record { main = main; channels = readings })) ≡ true → k ≡ first_rounds readings
channel_rounds k main [] some clean = absurd (omega (arith, some))
channel_rounds k main (reading ∷ readings) some clean = (clean_at k (length reading.rounds) (channel_end reading.state) (and_parts _ _ clean).0).0

-- streams that are done with one end of rounds aren't done with the other
pub one_round_end_law : DoneByOneRoundEnd
one_round_end_law given uuid texts by_flush by_eos size limit bytes some a a_done b b_done =
    let clean_a = and_parts _ _ (done_is_clean by_flush.rounds a.readings (sym a.has_verdict ∙ a_done)) in
    let clean_b = and_parts _ _ (done_is_clean by_eos.rounds b.readings (sym b.has_verdict ∙ b_done)) in
    let main_a = main_closed (ending Flush given) by_flush.rounds texts.main a.readings.main a.are_readings.has_main clean_a.0 in
    let main_b = main_closed (ending Eos given) by_eos.rounds texts.main b.readings.main b.are_readings.has_main clean_b.0 in
    let more = sections_are_more (main_of (ending Flush given)) texts.main.bytes a.are_readings.has_main.found b.are_readings.has_main.found size limit bytes
    a.are_readings.has_main.is_reading main_a.is_closed b.are_readings.has_main.is_reading main_b.is_closed in
    let channels : Settings = channel_of given uuid (length texts.channels) in
    let R : Text → ChannelReading → Type 0 = λ text reading. IsReading channels text.bytes text.ended reading in
    let same : a.readings.channels ≡ b.readings.channels =
    channels_are channels size texts.channels a.readings.channels a.are_readings.has_channels
    ∙ sym (channels_are channels size texts.channels b.readings.channels b.are_readings.has_channels) in
    let few_a = channel_rounds by_flush.rounds a.readings.main a.readings.channels
    (omega (arith, some, AllZip-long R texts.channels a.readings.channels a.are_readings.has_channels)) clean_a.1 in
    let few_b = channel_rounds by_eos.rounds b.readings.main b.readings.channels
    (omega (arith, some, AllZip-long R texts.channels b.readings.channels b.are_readings.has_channels)) clean_b.1 in
    omega (arith, more, main_a.has_rounds, main_b.has_rounds, few_a, few_b, ap first_rounds same)
