-- What was sent on several channels is loaded within a limit that lets its rounds through.
use Rattle.std.proofs.Common.{ℕ, zero, suc, ◌≡◌, ◌+◌, ◌<◌, ◌≤◌, true, List, [], ◌∷◌, ◌++◌, length, map, replicate, refl, sym, ap, ◌∙◌, Option, Some, None}
use Rattle.std.proofs.Common.{subst, arith}
use Rattle.std.specs.List.{All, AllZip, range_with_len}
use Rattle.std.proofs.lemmas.List.Elements.{All-nil, All-cons, All-head, All-tail}
use Rattle.std.proofs.lemmas.List.Sorted.{All-permutation}
use Rattle.mig_mem.specs.RamTable.{RamTable}
use Rattle.mig_mem.specs.PageSize.{IsPageSize}
use Rattle.mig_stream.specs.declared.item.Frame.{Frame}
use Rattle.mig_stream.specs.declared.item.Frame.TheVariants.{Ram, Machine}
use Rattle.mig_stream.specs.declared.item.Mode.TheVariants.{Main}
use Rattle.mig_stream.specs.declared.item.StreamState.{StreamState}
use Rattle.mig_stream.specs.declared.item.StreamState.TheVariants.{Reading, Closed, Bad}
use Rattle.mig_stream.specs.PageRecord.{PageRecord}
use Rattle.mig_stream.specs.Reading.{StreamReading, settings, with_waiting, state_at}
use Rattle.mig_stream.specs.Reading as stream
use Rattle.mig_stream.specs.Law.{closed, StaysRead}
use Rattle.mig_stream.specs.Text.{total_bytes}
use Rattle.mig_stream.proofs.Exists.{one_reading_law}
use Rattle.mig_stream.proofs.Longer.{longer_law}
use Rattle.mig_stream.proofs.WrittenText.{written_main}
use Rattle.mig_stream.proofs.WrittenMachine.{machine_mains}
use Rattle.mig_stream.proofs.SpelledText.{spelled_law}
use Rattle.mig_stream.proofs.LetThrough.{through_law as stream_through}
use Rattle.mig_packet.specs.declared.state.ChannelState.TheVariants as channel_state
use Rattle.mig_packet.specs.Reading.{Settings, ChannelReading, IsReading}
use Rattle.mig_packet.specs.Reading as channel
use Rattle.mig_packet.specs.Waiting.{IsWithin}
use Rattle.mig_packet.proofs.LetThrough.{through_law as channel_through}
use Rattle.mig_send.specs.DealtRounds.{DealtRound}
use Rattle.mig_send.specs.ReadBack.{channel_told, SendingsAreReadBack, MachineSendingsAreReadBack}
use Rattle.mig_send.proofs.ReadBack.{sendings_are_read_back, machine_sendings_are_read_back}
use Rattle.mig_load_types.specs.Settings.{main_of, channel_of}
use Rattle.mig_load_types.specs.declared.settings.LoadSettings.{LoadSettings}
use Rattle.mig_load_types.specs.declared.settings.RoundEnd.{RoundEnd}
use Rattle.mig_load_types.specs.declared.settings.RoundEnd.TheVariants.{Flush as by_flush}
use Rattle.mig_answer.specs.Texts.{Text, ended_text, ended_texts, Readings, IsMainReading, AreReadings}
use Rattle.mig_answer.specs.Rounds.{memory_at}
use Rattle.mig_answer.specs.MultiLoad.{verdict_at, IsFirstStop, Answer, IsAnswer}
use Rattle.mig_answer.specs.Sent.{LetsChannelsThrough, IsSentBefore, SendingsAreLoadedWithin, MachineSendingsAreLoaded, sent_answer}
use Rattle.mig_answer.proofs.OneAnswer.{some_readings, same_readings}
use Rattle.mig_answer.proofs.Sent.{framed, IsReadAsSent, AreToldOf, told_of}
use Rattle.mig_answer.proofs.Headline.{read_law, as_sent, machine_as_sent}

-- ---- the main stream

abbrev IsFew : ℕ → List PageRecord → Type 0
IsFew limit round = length round ≤ limit

none_few : (limit n : ℕ) → All (IsFew limit) (replicate n [])
none_few limit zero = All-nil (IsFew limit)
none_few limit (suc n) = All-cons (IsFew limit) [] (replicate n []) (omega arith) (none_few limit n)

closed_itself : (s : StreamState) → state_at true s ≡ Closed → s ≡ Closed
closed_itself Reading e = absurd cc
closed_itself Closed e = refl
closed_itself (Bad f) e = absurd cc

-- these settings without a limit
abbrev pub freed : LoadSettings → LoadSettings
freed given = record given { waiting = None }

main_within : (given : LoadSettings) (main : List ℕ) (table : RamTable) (n : ℕ) (reading : StreamReading)
    → reading ≡ closed table (replicate n []) → IsMainReading (freed given) (ended_text main) reading
    → IsMainReading given (ended_text main) reading
main_within given main table n reading told is = record { found = is.found; is_reading = by_limit given.waiting refl; has_end = is.has_end }
  where
    shut : is.found.state ≡ Closed
    shut = closed_itself is.found.state (sym (ap (λ (r : StreamReading). r.state) is.has_end) ∙ ap (λ (r : StreamReading). r.state) told)

    rounds : is.found.rounds ≡ replicate n []
    rounds = sym (ap (λ (r : StreamReading). r.rounds) is.has_end) ∙ ap (λ (r : StreamReading). r.rounds) told

    by_limit : (w : Option ℕ) → given.waiting ≡ w → stream.IsReading (main_of given) main is.found
    by_limit None e = subst (λ (w : Option ℕ). stream.IsReading (with_waiting w (main_of given)) main is.found) (sym e) is.is_reading
    by_limit (Some limit) e = stream_through (main_of given) limit main is.found e is.is_reading shut
        (subst (λ (r : List (List PageRecord)). All (IsFew limit) r) (sym rounds) (none_few limit n))

-- ---- the channels

-- a channel that is closed, none of whose rounds passes a limit
abbrev Fits : Option ℕ → ChannelReading → Type 0
Fits waiting reading = (reading.state ≡ channel_state.Closed) × All (IsWithin waiting) reading.rounds

channels_within : (given : Settings) (texts : List (List ℕ)) (readings : List ChannelReading)
    → AllZip (λ (text : Text) (reading : ChannelReading). IsReading
    (channel.with_waiting None given) text.bytes text.ended reading) (map ended_text texts) readings
    → All (Fits given.waiting) readings → AllZip
    (λ (text : Text) (reading : ChannelReading). IsReading given text.bytes text.ended reading) (map ended_text texts) readings
channels_within given [] [] zip fit = tt
channels_within given [] (reading ∷ readings) zip fit = absurd zip
channels_within given (text ∷ texts) [] zip fit = absurd zip
channels_within given (text ∷ texts) (reading ∷ readings) zip fit =
    let here : Fits given.waiting reading = All-head (Fits given.waiting) reading readings fit in
    (channel_through given text reading zip.0 here.0 here.1, channels_within given texts readings zip.1 (All-tail (Fits given.waiting) reading readings fit))

-- those with these numbers
each_fits : (waiting : Option ℕ) (rounds : List DealtRound) (n many : ℕ)
    → ((i : ℕ) → n ≤ i → i < n + many → All (IsWithin waiting) (channel_told rounds i).rounds)
    → All (Fits waiting) (map (channel_told rounds) (range_with_len n many))
each_fits waiting rounds n zero within = All-nil (Fits waiting)
each_fits waiting rounds n (suc many) within =
    All-cons (Fits waiting) (channel_told rounds n) (map (channel_told rounds) (range_with_len (n + 1) many)) (refl, within n (omega arith) (omega arith))
    (each_fits waiting rounds (n + 1) many (λ i from below. within i (omega (arith, from)) (omega (arith, below))))

-- ---- the answer

named : (frame : Frame) (given : LoadSettings) (table : RamTable) → given.frame ≡ frame → given.round_end ≡ by_flush
    → table.page_size ≡ given.page_size → freed given ≡ framed frame table.page_size given.limit
named frame given table in_frame flushes same =
    ap (λ (f : Frame). record given { frame = f; waiting = None }) in_frame
    ∙ ap (λ (e : RoundEnd). record given { frame = frame; waiting = None; round_end = e }) flushes ∙ ap (λ (n : ℕ). framed frame n given.limit) (sym same)

-- what is answered within a limit is answered without one, where all streams are read alike
freed_answer : (given : LoadSettings) (uuid main : List ℕ) (channels : List (List ℕ)) (answer : Answer) (readings : Readings) → IsPageSize given.page_size
    → AreReadings (freed given) uuid (ended_texts main channels) readings
    → AreReadings given uuid (ended_texts main channels) readings → IsAnswer given uuid (ended_texts main channels) answer
    → IsAnswer (freed given) uuid (ended_texts main channels) answer
freed_answer given uuid main channels answer readings size are_freed are is =
    let same : is.readings ≡ readings = same_readings given uuid (ended_texts main channels) is.readings readings size is.are_readings are in
    record {
      readings = readings;
      are_readings = are_freed;
      has_rounds = subst (λ (r : Readings). IsFirstStop r answer.rounds) same is.has_rounds;
      has_memory = is.has_memory ∙ ap (λ (r : Readings). memory_at answer.rounds r) same;
      has_verdict = is.has_verdict ∙ ap (λ (r : Readings). verdict_at answer.rounds r) same;
    }

-- what is read of a sending within a limit
pub told_within : (frame : Frame) (given : LoadSettings) (table : RamTable) (uuid : List ℕ) (rounds : List
    DealtRound) (main : List ℕ) (channels : List (List ℕ)) → given.frame ≡ frame
    → LetsChannelsThrough given.waiting (length channels) rounds → given.round_end ≡ by_flush → table.page_size ≡ given.page_size
    → IsReadAsSent frame table uuid given.limit rounds main channels
    → (readings : Readings) × AreReadings (freed given) uuid (ended_texts main channels) readings
    × AreReadings given uuid (ended_texts main channels) readings × AreToldOf table (length channels) rounds readings
told_within frame given table uuid rounds main channels in_frame lets flushes same sent =
    let size : IsPageSize given.page_size = subst IsPageSize same sent.is_sending.is_set.has_table.has_page_size in
    let found = some_readings (freed given) uuid (ended_texts main channels) size in
    let readings : Readings = found.0 in
    let are_freed : AreReadings (freed given) uuid (ended_texts main channels) readings = found.1 in
    let told : AreToldOf table (length channels) rounds readings =
    told_of frame table uuid given.limit rounds main channels readings sent
    (subst (λ (g : LoadSettings). AreReadings g uuid (ended_texts main channels) readings) (named frame given table in_frame flushes same) are_freed) in
    let fit : All (Fits given.waiting) readings.channels =
    All-permutation (Fits given.waiting) (map (channel_told rounds) (range_with_len 0 (length channels))) readings.channels told.has_channels
    (each_fits given.waiting rounds 0 (length channels) (λ i from below. lets i (omega (arith, below)))) in
    let are : AreReadings given uuid (ended_texts main channels) readings = record {
      has_main = main_within given main table (length rounds) readings.main told.has_main are_freed.has_main;
      has_channels = channels_within (channel_of given uuid (length (map ended_text channels))) channels readings.channels are_freed.has_channels fit;
    } in
    (readings, are_freed, are, told)

-- the answer on streams that are read as they were sent, within a limit that lets the rounds
-- through, is done, with all rounds
pub within_law : (frame : Frame) (given : LoadSettings) (table : RamTable) (uuid : List ℕ) (rounds : List DealtRound) (main : List
    ℕ) (channels : List (List ℕ)) (answer : Answer)
    → given.frame ≡ frame → LetsChannelsThrough given.waiting (length channels) rounds → given.round_end ≡ by_flush → table.page_size ≡ given.page_size
    → IsReadAsSent frame table uuid given.limit rounds main channels → IsAnswer given uuid (ended_texts main channels) answer
    → answer ≡ sent_answer table rounds
within_law frame given table uuid rounds main channels answer in_frame lets flushes same sent answers =
    let size : IsPageSize given.page_size = subst IsPageSize same sent.is_sending.is_set.has_table.has_page_size in
    let found = told_within frame given table uuid rounds main channels in_frame lets flushes same sent in
    read_law frame table uuid given.limit rounds main channels answer sent
    (subst (λ (g : LoadSettings). IsAnswer g uuid (ended_texts main channels) answer) (named frame given table in_frame flushes same)
    (freed_answer given uuid main channels answer found.0 size found.1 found.2 answers))

-- no limit lets all rounds through
pub none_lets : (channels : ℕ) (rounds : List DealtRound) → LetsChannelsThrough None channels rounds
none_lets channels rounds = λ channel below i d low. tt

-- ---- the laws

-- if machines' sendings are read back, they're loaded whole, within a limit that lets their
-- rounds through
pub machine_within_law : MachineSendingsAreReadBack → MachineSendingsAreLoaded
machine_within_law back = λ given table uuid rounds main channels answer frame lets flushes same room sent answers.
    within_law Machine given table uuid rounds main channels answer frame lets flushes same
    (machine_as_sent back table uuid given.limit rounds main channels sent room) answers

-- a closed stream is read so whatever follows it
pub still_closed : (given : stream.Settings) (text behind : List ℕ) (reading : StreamReading) → IsPageSize given.page_size
    → stream.IsReading given text reading → reading.state ≡ Closed
    → stream.IsReading given (text ++ behind) reading
still_closed given text behind reading size is shut =
    let more = one_reading_law given (text ++ behind) size in
    let stays : StaysRead reading more.0 = longer_law given text behind reading more.0 size is more.1 in
    subst (λ (r : StreamReading). stream.IsReading given (text ++ behind) r)
    (stays.same_once_over (λ open_. absurd (let clash : Reading ≡ Closed = sym open_ ∙ shut in cc))) more.1

-- the streams of a sending are read so, too
pub before_as_sent : SendingsAreReadBack
    → (table : RamTable) (uuid : List ℕ) (limit : ℕ) (rounds : List DealtRound) (main : List ℕ) (channels : List (List ℕ))
    → IsSentBefore table uuid rounds main channels
    → total_bytes table ≤ limit → IsReadAsSent Ram table uuid limit rounds main channels
before_as_sent back table uuid limit rounds main channels sent room =
    let alone : IsReadAsSent Ram table uuid limit rounds sent.ram channels = as_sent back table uuid limit rounds sent.ram channels sent.is_sent room in
    let read : stream.IsReading (settings Main table.page_size limit) (sent.ram ++ sent.behind) (closed table (replicate (length rounds) [])) =
    still_closed (settings Main table.page_size limit) sent.ram sent.behind
    (closed table (replicate (length rounds) [])) alone.is_sending.is_set.has_table.has_page_size alone.main_is_read refl in
    record {
      batch_limit = alone.batch_limit;
      ram = alone.ram;
      in_order = alone.in_order;
      is_sending = alone.is_sending;
      is_permutation = alone.is_permutation;
      main_is_read = subst (λ (bytes : List ℕ). stream.IsReading (settings Main table.page_size limit) bytes
          (closed table (replicate (length rounds) []))) (sym sent.has_main) read;
      channels_are_read = alone.channels_are_read;
    }

-- if sendings are read back, they're loaded whole, whatever follows in the main stream, within a
-- limit that lets their rounds through
pub sendings_within_law : SendingsAreReadBack → SendingsAreLoadedWithin
sendings_within_law back = λ given table uuid rounds main channels answer frame lets flushes same room sent answers.
    within_law Ram given table uuid rounds main channels answer frame lets flushes same
    (before_as_sent back table uuid given.limit rounds main channels sent room) answers

-- what the sender writes is loaded as it was sent, also within a limit that lets it through
pub sendings_are_loaded_within : SendingsAreLoadedWithin
sendings_are_loaded_within = sendings_within_law (sendings_are_read_back (λ limit table n is room. written_main table n limit is room) spelled_law)

-- (for callers that have no clause of it at hand)
pub machine_sendings_are_loaded : MachineSendingsAreLoaded
machine_sendings_are_loaded =
    machine_within_law (machine_sendings_are_read_back machine_mains
    (sendings_are_read_back (λ limit table n is room. written_main table n limit is room) spelled_law))
