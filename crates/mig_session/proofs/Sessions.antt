-- What a session represents: before the first piece, after each, and once a source has ended.
use Rattle.std.proofs.Common.{ℕ, zero, suc, ◌≡◌, ◌≢◌, ◌⊎◌, ◌+◌, ◌<◌, ◌≤◌, ◌^◌, Bool, true, false, List, [], ◌∷◌, ◌++◌, length, map, get_or, replicate, refl}
use Rattle.std.proofs.Common.{sym, ap, subst, ◌∙◌, inl, inr, Option, Some, None, arith}
use Rattle.std.specs.Prelude.{◌↔◌, IsTrue, IsFalse, slice_get, Result, Ok, Err, OnOk, IfSome}
use Rattle.std.specs.List.{AllZip, All, enumerate_from, list_all}
use Rattle.std.specs.Option.{option_map, option_and_then}
use Rattle.std.proofs.lemmas.Bool.{and_parts}
use Rattle.std.proofs.lemmas.List.{length-append, length-map, length-replicate}
use Rattle.std.proofs.lemmas.List.Elements.{All-nil, All-cons, All-head, All-tail}
use Rattle.mig_mem.specs.PageSize.{IsPageSize}
use Rattle.mig_stream.specs.declared.item.StreamState.TheVariants.{Reading, Closed}
use Rattle.mig_stream.specs.Progress.{StreamProgress, start}
use Rattle.mig_stream.specs.Reading.{Settings as StreamSettings, StreamReading, Reads}
use Rattle.mig_stream.specs.Reader as stream
use Rattle.mig_stream.specs.Reader.{HasTable}
use Rattle.mig_stream.proofs.Feeding.{reads_short}
use Rattle.mig_stream.proofs.Closing.{closed_more}
use Rattle.mig_packet.specs.Reader as channel
use Rattle.mig_packet.specs.declared.state.ChannelState.{ChannelState}
use Rattle.mig_packet.specs.declared.state.ChannelState.TheVariants as channel_state
use Rattle.mig_packet.specs.Progress.{ChannelProgress, start as channel_start}
use Rattle.mig_packet.proofs.Feeding.{reads_short as channel_short}
use Rattle.mig_packet.specs.Reading.{Settings, ChannelReading, IsReading, Reads as ChannelReads}
use Rattle.mig_sources.specs.declared.counts.Count.{Count}
use Rattle.mig_session.specs.declared.places.Noted.{Noted}
use Rattle.mig_sources.specs.declared.source.Source.{Source}
use Rattle.mig_sources.specs.declared.source.Source.TheVariants as source
use Rattle.mig_load_types.specs.Settings.{main_of, channel_of, mode_of}
use Rattle.mig_load_types.specs.declared.settings.LoadSettings.{LoadSettings}
use Rattle.mig_load_types.specs.declared.fault.Origin.TheVariants as origin
use Rattle.mig_load_types.specs.declared.fault.Fault.{Fault}
use Rattle.mig_answer.specs.declared.verdict.Verdict.{Verdict}
use Rattle.mig_answer.specs.declared.verdict.Verdict.TheVariants.{Running, Done, Failed}
use Rattle.mig_answer.specs.Status.{stream_end, channel_end, channel_status, is_clean, fault_of}
use Rattle.mig_answer.specs.Texts.{Text, Texts, Readings, no_text, no_texts, with_piece}
use Rattle.mig_answer.specs.Rounds.{memory_at, missing_at}
use Rattle.mig_answer.specs.MultiLoad.{IsAnswer, IsFirstStop, Standing, main_at, channels_at, passes, verdict_at}
use Rattle.mig_answer.specs.Growing.{GoesOn, GoOn}
use Rattle.mig_in_place.specs.Session.{text_of}
use Rattle.mig_in_place.proofs.Turning.{texts_long}
use Rattle.mig_session.specs.Scan.{HasOnly}
use Rattle.mig_session.specs.Sources.{Places, Waits, Holds}
use Rattle.mig_session.specs.Loading.{RoundLoad, Feeding, fed, over as feeding_over, HasRoom, TakesOrWaits, HasAloneIfAny}
use Rattle.mig_sources.specs.Sources.{Counts, HasSource, count_of, no_count, with_fed, with_end, count_in, counts_in, feed_step, end_step}
use Rattle.mig_session.specs.Session.{Fed, Held, held_of, target_in, LoadSession, rounds_loaded, missing_in, answer_in, feeding, LoadsWith, IsRunning}
use Rattle.mig_session.specs.Session.{IsOfSession, place_of, noted_fault, nothing_noted, IsNotedOfChannel, HasPlaces, HavePlaces, HaveOnly, TellAllIn}
use Rattle.mig_session.specs.Session.{HasAllRounds, HasMissing, AsRead, StandsFor, LacksMemory, session, StandsForSome, IsSession}
use Rattle.mig_sources.specs.Faults.{HasFault, HasMainFault, HasChannelFault, IsSourceValidUpTo}
use Rattle.mig_session.specs.Advancing.{IsTold, IsFedNext, failed_without_memory}
use Rattle.mig_answer.proofs.Statuses.{clean_at, stream_closed, passes_all}
use Rattle.mig_answer.proofs.Never.{done_is_clean}
use Rattle.mig_answer.proofs.OneAnswer.{some_readings}
use Rattle.mig_answer.proofs.Growing.{answers_law, wants_law}
use Rattle.mig_sources.proofs.First.{nothing_read, main_nothing}
use Rattle.mig_sources.proofs.Steps.{counts_fed, stays_same, counts_ended, goes_then, all_same, as_many_texts, fed_goes_on, all_then, none_counted}
use Rattle.mig_sources.proofs.Steps.{ended_goes_on}
use Rattle.mig_session.proofs.MainScanning.{fault_is as main_fault}
use Rattle.mig_session.proofs.Scanning.{fault_read as channel_fault}
use Rattle.mig_session.proofs.Parts.{count_text, room_goes}
use Rattle.mig_session.proofs.Settling.{running_or_not, alone_memory}
use Rattle.mig_session.proofs.Advances.{takes_of}

-- ---- a session that runs

-- A session keeps its sources and its load as long as it runs. After that it keeps what the load
-- held.
pub record Keeps (verdict : Verdict) (now : Fed) (load : Option RoundLoad) (sources : Option Fed) (kept : Option RoundLoad) (over : Option Held) : Type 0 where
  pub running : verdict ≡ Running → (sources ≡ Some now) × (kept ≡ load) × (over ≡ None)
  pub settled : verdict ≢ Running → (sources ≡ None) × (kept ≡ None)
  pub has_target : target_in kept over ≡ option_map held_of load

-- the verdict is found: the session represents the streams
pub stands_told : (given : LoadSettings) (uuid : List ℕ) (texts : Texts) (counts : Counts) (places : Option Places) (now : Fed)
    (load : Option RoundLoad) (verdict : Verdict) (sources : Option Fed) (kept : Option RoundLoad) (over : Option Held)
    → IsPageSize given.page_size → IsOfSession given texts → counts ≡ counts_in texts → IsRunning (feeding given uuid texts) load verdict now
    → IsTold (feeding given uuid texts) load verdict → Keeps verdict now load sources kept over → HavePlaces given uuid texts places
    → StandsFor given uuid texts (session given uuid counts places sources kept over verdict)
stands_told given uuid texts counts places now load verdict sources kept over size of counted running told keeps have =
    let same : option_map held_of load ≡ target_in kept over = sym keeps.has_target in
    let answer : IsAnswer given uuid texts (answer_in (session given uuid counts places sources kept over verdict)) = record {
      readings = told.readings;
      are_readings = told.are_readings;
      has_rounds = subst (λ (t : Option Held). IsFirstStop told.readings (rounds_loaded t)) same told.told.is_first_stop;
      has_memory = subst (λ (t : Option Held). option_map (λ (h : Held). h.memory) t ≡ memory_at (rounds_loaded t) told.readings) same told.told.has_memory;
      has_verdict = subst (λ (t : Option Held). verdict ≡ verdict_at (rounds_loaded t) told.readings) same told.told.has_verdict;
    } in
    record {
      is_page_size = size;
      has_settings = refl;
      has_uuid = refl;
      is_of_session = of;
      has_counts = counted;
      is_answer = answer;
      runs = elim (running_or_not verdict) [
        | inl runs ↦
            let all = keeps.running runs in
            subst (λ (o : Option Fed). IfSome o (IsRunning (feeding given uuid texts) kept verdict)) (sym all.0)
            (subst (λ (l : Option RoundLoad). IsRunning (feeding given uuid texts) l verdict now) (sym all.1) running)
        | inr other ↦ subst (λ (o : Option Fed). IfSome o (IsRunning (feeding given uuid texts) kept verdict)) (sym (keeps.settled other).0) tt
      ];
      read = texts;
      goes_on = record { main = stays_same texts.main; channels = all_same texts.channels };
      has_read_all = λ some. refl;
      is_answer_there = answer;
      have_places = have;
      has_missing = record {
        readings = told.readings;
        are_readings = told.are_readings;
        is_count = subst (λ (t : Option Held). missing_in t ≡ missing_at (rounds_loaded t) told.readings) same told.told.has_missing;
      };
    }

-- an allocation was refused
pub lacks_of : (given : LoadSettings) (uuid : List ℕ) (texts : Texts) (counts : Counts) (load : Option RoundLoad) (over : Option Held)
    → IsPageSize given.page_size → counts ≡ counts_in texts → HasAloneIfAny (feeding given uuid texts) load → over ≡ option_map held_of load
    → LacksMemory given uuid texts (session given uuid counts None None None over (failed_without_memory (rounds_loaded (option_map held_of load))))
lacks_of given uuid texts counts None over size counted has is =
    let some = some_readings given uuid texts size in
    rw is (record {
      is_page_size = size;
      has_counts = counted;
      is_without = record {
        readings = some.0;
        are_readings = some.1;
        have_passed = λ j below. absurd (omega (arith, below));
        has_memory = inr (refl, refl);
        has_verdict = refl;
      };
      has_no_places = refl;
    })
lacks_of given uuid texts counts (Some l) over size counted has is = rw is (record {
  is_page_size = size;
  has_counts = counted;
  is_without = record {
    readings = has.alone.readings;
    are_readings = has.alone.are_readings;
    have_passed = has.alone.have_passed;
    has_memory = inl (alone_memory (feeding given uuid texts) l size has);
    has_verdict = refl;
  };
  has_no_places = refl;
})

-- ---- before the first piece

-- nothing is valid up to its first byte
main_first : (given : LoadSettings) → stream.IsValidUpTo (main_of given) [] 0
main_first given =
    let begin : StreamProgress = start given.frame (mode_of given.round_end) given.page_size given.limit given.waiting in
    let reads : Reads begin [] begin [] Reading = reads_short begin [] (omega arith) in
    record {
      to = begin;
      rest = [];
      state = Reading;
      reads = reads;
      has_length = omega (arith, ap (λ (l : List ℕ). length l) reads.has_text, length-append reads.front []);
    }

main_open : (given : LoadSettings) → stream.HasClosedAt (main_of given) [] None
main_open given =
    let begin : StreamProgress = start given.frame (mode_of given.round_end) given.page_size given.limit given.waiting in
    (nothing_read, record { to = begin; rest = []; reads = reads_short begin [] (omega arith); has_table = refl; has_rounds = refl }, λ e. absurd cc)

channel_first : (given : Settings) → channel.IsValidUpTo given [] 0
channel_first given =
    let begin : ChannelProgress = channel_start given.page_size given.uuid given.channels given.waiting in
    let reads : ChannelReads begin [] begin [] channel_state.Reading =
    channel_short begin [] (record { has_no_fault = refl; is_short = λ le. absurd (omega (arith, le)) }) in
    record {
      to = begin;
      rest = [];
      found = channel_state.Reading;
      reads = reads;
      has_length = omega (arith, ap (λ (l : List ℕ). length l) reads.has_text, length-append reads.front []);
    }

-- and has no fault
main_sound : (given : LoadSettings) → HasMainFault (main_of given) no_text None
main_sound given =
    let begin : StreamProgress = start given.frame (mode_of given.round_end) given.page_size given.limit given.waiting in
    (Reading, (nothing_read, record { to = begin; rest = []; reads = reads_short begin [] (omega arith); has_table = refl; has_rounds = refl }, refl), refl)

channel_sound : (given : Settings) → HasChannelFault given no_text None
channel_sound given =
    let begin : ChannelProgress = channel_start given.page_size given.uuid given.channels given.waiting in
    let reads : ChannelReads begin [] begin [] channel_state.Reading =
    channel_short begin [] (record { has_no_fault = refl; is_short = λ le. absurd (omega (arith, le)) }) in
    let reading : ChannelReading = record { hello = None; rounds = []; state = channel_state.Reading } in (
      channel_state.Reading,
      (
        reading,
        record {
          to = begin;
          rest = [];
          found = channel_state.Reading;
          reads = reads;
          has_hello = refl;
          has_rounds = refl;
          has_state = refl;
        },
        refl,
      ),
      refl,
    )

channels_first : (given : Settings) (n : ℕ) → AllZip (IsNotedOfChannel given) (replicate n no_text) (replicate n nothing_noted)
channels_first given zero = tt
channels_first given (suc n) = (record { is_valid = channel_first given; has_fault = channel_sound given }, channels_first given n)

-- with nothing noted of any source, the notes are those of streams without bytes
pub places_first : (given : LoadSettings) (uuid : List ℕ) (n : ℕ) (places : Places)
    → places ≡ record { main = nothing_noted; closed_at = None; channels = replicate n nothing_noted } → HasPlaces given uuid (no_texts n) places
places_first given uuid n places is = rw is record {
  main = record { is_valid = main_first given; has_fault = main_sound given };
  closed = main_open given;
  channels = channels_first (channel_of given uuid (length (replicate n no_text))) n;
}

no_bytes : (n : ℕ) → replicate n [] ≡ map (λ (text : Text). text.bytes) (replicate n no_text)
no_bytes zero = refl
no_bytes (suc n) = ap (λ (l : List (List ℕ)). [] ∷ l) (no_bytes n)

main_none : (given : LoadSettings) → HasTable (main_of given) [] None
main_none given =
    let begin : StreamProgress = start given.frame (mode_of given.round_end) given.page_size given.limit given.waiting in
    (nothing_read, record { to = begin; rest = []; reads = reads_short begin [] (omega arith); has_table = refl; has_rounds = refl }, refl)

-- a session that counts no bytes, has no load and runs represents streams without bytes
pub stands_at_first : (given : LoadSettings) (uuid : List ℕ) (n : ℕ) (now : Fed) (counts : Counts) (places : Option
    Places) → IsPageSize given.page_size → (1 ≤ n) × (n ≤ 255) → given.limit ≤ 2 ^ 40
    → counts ≡ record { main = no_count; channels = replicate n no_count } → Holds given uuid (no_texts n) now.read
    → now.waiting ≡ record { main = []; channels = replicate n [] } → HavePlaces given uuid (no_texts n) places
    → StandsFor given uuid (no_texts n) (session given uuid counts places (Some now) None None Running)
stands_at_first given uuid n now counts places size few limit counted holds none have =
    let some = some_readings given uuid (no_texts n) size in
    let readings : Readings = some.0 in
    let is : readings.main ≡ nothing_read = main_nothing given readings.main size some.1.has_main in
    let channels : List ChannelReading = readings.channels in
    let answer : IsAnswer given uuid (no_texts n) (record { memory = None; rounds = 0; verdict = Running }) = record {
      readings = readings;
      are_readings = some.1;
      has_rounds = record {
        before = λ j below. absurd (omega (arith, below));
        here = ap (λ (m : StreamReading). passes 0 (record { main = m; channels = channels })) is;
      };
      has_memory = sym (ap (λ (m : StreamReading). memory_at 0 (record { main = m; channels = channels })) is);
      has_verdict = sym (ap (λ (m : StreamReading). verdict_at 0 (record { main = m; channels = channels })) is);
    } in
    record {
      is_page_size = size;
      has_settings = refl;
      has_uuid = refl;
      is_of_session = record {
        is_page_size = size;
        has_limit = limit;
        has_channel = omega (arith, few.0, length-replicate n no_text);
        has_few = omega (arith, few.1, length-replicate n no_text);
      };
      has_counts = counted ∙ ap (λ (l : List Count). record { main = no_count; channels = l }) (none_counted n);
      is_answer = answer;
      runs = record {
        holds = holds;
        loads = (
          record { main = ap (λ (w : Waits). w.main) none; channels = ap (λ (w : Waits). w.channels) none ∙ no_bytes n },
          main_none given,
        );
      };
      read = no_texts n;
      goes_on = record { main = stays_same no_text; channels = all_same (replicate n no_text) };
      has_read_all = λ some. refl;
      is_answer_there = answer;
      have_places = have;
      has_missing = record {
        readings = readings;
        are_readings = some.1;
        is_count = sym (ap (λ (m : StreamReading). missing_at 0 (record { main = m; channels = channels })) is);
      };
    }

-- ---- a session that is settled

of_further : (given : LoadSettings) (texts now : Texts) → GoOn texts now → IsOfSession given texts → IsOfSession given now
of_further given texts now goes of =
    let many = as_many_texts texts.channels now.channels goes.channels in
    record {
      is_page_size = of.is_page_size;
      has_limit = of.has_limit;
      has_channel = omega (arith, many, of.has_channel);
      has_few = omega (arith, many, of.has_few);
    }

-- a session that has its verdict represents the streams that go on, with their counts
pub settled_steps : (given : LoadSettings) (uuid : List ℕ) (texts now : Texts) (s : LoadSession) (counts : Counts)
    → StandsFor given uuid texts s → s.sources ≡ None → s.verdict ≢ Running
    → GoOn texts now → counts ≡ counts_in now → StandsFor given uuid now (record s { counts = counts })
settled_steps given uuid texts now s counts stands none settled goes counted = record {
  is_page_size = stands.is_page_size;
  has_settings = stands.has_settings;
  has_uuid = stands.has_uuid;
  is_of_session = of_further given texts now goes stands.is_of_session;
  has_counts = counted;
  is_answer = answers_law given uuid texts now (answer_in s) stands.is_page_size goes stands.is_answer settled;
  runs = rw none tt;
  read = stands.read;
  goes_on = record {
    main = goes_then stands.read.main texts.main now.main stands.goes_on.main goes.main;
    channels = all_then stands.read.channels texts.channels now.channels stands.goes_on.channels goes.channels;
  };
  has_read_all = λ some. absurd (some none);
  is_answer_there = stands.is_answer_there;
  have_places = stands.have_places;
  has_missing = stands.has_missing;
}

-- a session after a refused allocation still represents the streams that go on, with their counts
pub lacking_steps : (given : LoadSettings) (uuid : List ℕ) (texts now : Texts) (s : LoadSession) (counts : Counts)
    → LacksMemory given uuid texts s → GoOn texts now → counts ≡ counts_in now
    → LacksMemory given uuid now (record s { counts = counts })
lacking_steps given uuid texts now s counts lacks goes counted = record {
  is_page_size = lacks.is_page_size;
  has_counts = counted;
  is_without = wants_law given uuid texts now (answer_in s) lacks.is_page_size goes lacks.is_without;
  has_no_places = lacks.has_no_places;
}

-- ---- the calls

target_none : (load : Option RoundLoad) → target_in load None ≡ option_map held_of load
target_none None = refl
target_none (Some l) = refl

-- what is left of a load that isn't over is what the load has
pub target_running : (load : Option RoundLoad) (over : Option Held) → over ≡ None → target_in load over ≡ option_map held_of load
target_running load over none = ap (target_in load) none ∙ target_none load

-- a session that ran keeps so, or what its load held
pub keeps_of : (verdict : Verdict) (now : Fed) (load : Option RoundLoad) (sources : Option Fed) (kept : Option RoundLoad) (over before : Option Held)
    → before ≡ None
    → (verdict ≡ Running → (sources ≡ Some now) × (kept ≡ load) × (over ≡ before)) → (verdict ≢ Running → (sources ≡ None) × (kept ≡ None))
    → target_in kept over ≡ target_in load before → Keeps verdict now load sources kept over
keeps_of verdict now load sources kept over before none running settled target = record {
  running = λ runs. let all = running runs in (all.0, all.1, all.2 ∙ none);
  settled = settled;
  has_target = target ∙ ap (target_in load) none ∙ target_none load;
}

-- what is left of a load that was refused memory
pub held_then : (load : Option RoundLoad) (over before : Option Held) → before ≡ None → over ≡ target_in load before → over ≡ option_map held_of load
held_then load over before none is = is ∙ ap (target_in load) none ∙ target_none load

-- one that keeps them runs
pub keeps_runs : (s : LoadSession) (now : Fed) → IsSession s → s.sources ≡ Some now → s.verdict ≡ Running
keeps_runs s now is some = go s.verdict is.is_settled
  where
    go : (v : Verdict) → (v ≢ Running → s.sources ≡ None) → v ≡ Running
    go Running settled = refl
    go Done settled = let bad : Some now ≡ None = sym some ∙ settled (λ e. absurd cc) in absurd cc
    go (Failed f) settled = let bad : Some now ≡ None = sym some ∙ settled (λ e. absurd cc) in absurd cc

-- what its sources and its load represent
pub runs_of : (given : LoadSettings) (uuid : List ℕ) (texts : Texts) (s : LoadSession) (now : Fed) → s.sources ≡ Some now → StandsFor given uuid texts s
    → IsRunning (feeding given uuid texts) s.load s.verdict now
runs_of given uuid texts s now some stands =
    subst (λ (o : Option Fed). IfSome o (IsRunning (feeding given uuid texts) s.load s.verdict)) some stands.runs

-- those of a session that runs are of all its streams
pub places_now : (given : LoadSettings) (uuid : List ℕ) (texts : Texts) (s : LoadSession) (now : Fed)
    → s.sources ≡ Some now → StandsFor given uuid texts s → HavePlaces given uuid texts s.places
places_now given uuid texts s now some stands =
    subst (λ (t : Texts). HavePlaces given uuid t s.places)
    (stands.has_read_all (λ none. let bad : Some now ≡ None = sym some ∙ none in absurd cc)) stands.have_places

-- the streams before a piece of a session that runs
pub fed_next : (given : LoadSettings) (uuid : List ℕ) (texts : Texts) (s : LoadSession) (now : Fed) (from : Source) (piece : List ℕ) (counts : Counts)
    → StandsFor given uuid texts s → s.sources ≡ Some now → HasSource s.counts from → IsFalse (count_of s.counts from).ended
    → (count_of s.counts from).fed + length piece < 2 ^ 64 → counts ≡ with_fed s.counts from (length piece)
    → IsFedNext s.settings s.uuid counts from piece (feeding given uuid texts) now s.load
fed_next given uuid texts s now from piece counts stands some there open_ room counted =
    let runs = runs_of given uuid texts s now some stands in
    let same = stands.has_counts in
    let here : HasSource (counts_in texts) from = subst (λ (c : Counts). HasSource c from) same there in
    let one : count_of s.counts from ≡ count_in (text_of texts from) = ap (λ (c : Counts). count_of c from) same ∙ count_text texts from here in
    let all : counts ≡ counts_in (feed_step from piece texts) =
    counted ∙ ap (λ (c : Counts). with_fed c from (length piece)) same ∙ sym (counts_fed from piece texts) in
    record {
      is_made = record {
        has_settings = stands.has_settings;
        has_uuid = stands.has_uuid;
        has_channels = ap (λ (c : Counts). length c.channels) all ∙ length-map (feed_step from piece texts).channels count_in
            ∙ texts_long from (with_piece piece) texts;
        is_of_session = stands.is_of_session;
      };
      has_counts = all;
      has_room = record {
        there = here;
        is_open = sym (ap (λ (c : Count). c.ended) one) ∙ open_;
        few = omega (arith, room, ap (λ (c : Count). c.fed) one);
      };
      holds = runs.holds;
      takes = takes_of (feeding given uuid texts) now.waiting s.load s.verdict runs.loads;
    }

-- a session with the settings and UUID of another one
as_made : (given : LoadSettings) (uuid : List ℕ) (texts : Texts) (s : LoadSession) (counts : Counts) (places : Option Places) (sources : Option Fed)
    (load : Option RoundLoad) (over : Option Held) (verdict : Verdict) (Is : LoadSession → Type 0) → StandsFor given uuid texts s
    → Is (session given uuid counts places sources load over verdict) → Is (session s.settings s.uuid counts places sources load over verdict)
as_made given uuid texts s counts places sources load over verdict Is stands is =
    subst (λ (g : LoadSettings). Is (session g s.uuid counts places sources load over verdict)) (sym stands.has_settings)
    (subst (λ (u : List ℕ). Is (session given u counts places sources load over verdict)) (sym stands.has_uuid) is)

-- a piece was taken
pub feed_steps : (given : LoadSettings) (uuid : List ℕ) (texts : Texts) (s : LoadSession) (now new : Fed) (from : Source) (piece : List ℕ)
    (load : Option RoundLoad) (verdict : Verdict) (counts : Counts) (places : Option Places) (sources : Option Fed) (kept : Option RoundLoad)
    (over : Option Held)
    → StandsFor given uuid texts s → s.sources ≡ Some now → IsFedNext s.settings s.uuid counts from piece (feeding given uuid texts) now s.load
    → ((f : Feeding) → IsFedNext s.settings s.uuid counts from piece f now s.load
    → IsRunning (fed from piece f) load verdict new × IsTold (fed from piece f) load verdict)
    → Keeps verdict new load sources kept over
    → ((f : Feeding) → IsFedNext s.settings s.uuid counts from piece f now s.load → HavePlaces f.given f.uuid f.texts s.places
    → HavePlaces f.given f.uuid (feed_step from piece f.texts) places)
    → StandsFor given uuid (feed_step from piece texts) (session s.settings s.uuid counts places sources kept over verdict)
feed_steps given uuid texts s now new from piece load verdict counts places sources kept over stands some next takes keeps notes =
    let f : Feeding = feeding given uuid texts in
    let all : Texts = feed_step from piece texts in
    let took = takes f next in
    as_made given uuid texts s counts places sources kept over verdict (StandsFor given uuid all) stands
    (stands_told given uuid all counts places new load verdict sources kept over stands.is_page_size
    (of_further given texts all (room_goes texts from piece next.has_room) stands.is_of_session) next.has_counts took.0 took.1
    keeps (notes f next (places_now given uuid texts s now some stands)))

-- it wasn't, since an allocation was refused
pub feed_runs_out : (given : LoadSettings) (uuid : List ℕ) (texts : Texts) (s : LoadSession) (now : Fed) (from : Source) (piece : List ℕ)
    (load : Option RoundLoad) (counts : Counts) (over : Option Held)
    → StandsFor given uuid texts s → IsFedNext s.settings s.uuid counts from piece (feeding given uuid texts) now s.load
    → ((f : Feeding) → IsFedNext s.settings s.uuid counts from piece f now s.load → HasAloneIfAny (fed from piece f) load) → over ≡ option_map held_of load
    → LacksMemory given uuid (feed_step from piece texts)
    (session s.settings s.uuid counts None None None over (failed_without_memory (rounds_loaded (option_map held_of load))))
feed_runs_out given uuid texts s now from piece load counts over stands next takes is =
    let verdict : Verdict = failed_without_memory (rounds_loaded (option_map held_of load)) in
    as_made given uuid texts s counts None None None over verdict (LacksMemory given uuid (feed_step from piece texts)) stands
    (lacks_of given uuid (feed_step from piece texts) counts load over stands.is_page_size next.has_counts (takes (feeding given uuid texts) next) is)

-- a source of a session that runs is ended
pub end_steps : (given : LoadSettings) (uuid : List ℕ) (texts : Texts) (s : LoadSession) (now new : Fed) (from : Source)
    (load : Option RoundLoad) (verdict : Verdict) (counts : Counts) (places : Option Places) (sources : Option Fed) (kept : Option RoundLoad)
    (over : Option Held)
    → StandsFor given uuid texts s → s.sources ≡ Some now → s.verdict ≡ Running → HasSource s.counts from
    → ((f : Feeding) → IsPageSize f.given.page_size → IsRunning f s.load Running now → HasSource (counts_in f.texts) from
    → IsRunning (feeding_over from f) load verdict new × IsTold (feeding_over from f) load verdict)
    → counts ≡ with_end s.counts from → Keeps verdict new load sources kept over
    → ((f : Feeding) → Holds f.given f.uuid f.texts now.read → HavePlaces f.given f.uuid f.texts s.places
    → HavePlaces f.given f.uuid (end_step from f.texts) places)
    → StandsFor given uuid (end_step from texts) (session s.settings s.uuid counts places sources kept over verdict)
end_steps given uuid texts s now new from load verdict counts places sources kept over stands some running there ends counted keeps notes =
    let f : Feeding = feeding given uuid texts in
    let all : Texts = end_step from texts in
    let runs : IsRunning f s.load s.verdict now = runs_of given uuid texts s now some stands in
    let ended = ends f stands.is_page_size (subst (λ (v : Verdict). IsRunning f s.load v now) running runs)
    (subst (λ (c : Counts). HasSource c from) stands.has_counts there) in
    as_made given uuid texts s counts places sources kept over verdict (StandsFor given uuid all) stands
    (stands_told given uuid all counts places new load verdict sources kept over stands.is_page_size
    (of_further given texts all (ended_goes_on from texts) stands.is_of_session)
    (counted ∙ ap (λ (c : Counts). with_end c from) stands.has_counts ∙ sym (counts_ended from texts)) ended.0 ended.1
    keeps (notes f runs.holds (places_now given uuid texts s now some stands)))

-- a settled session counts a piece
pub feed_counts : (given : LoadSettings) (uuid : List ℕ) (texts : Texts) (s : LoadSession) (from : Source) (piece : List
    ℕ) (counts : Counts) → IsSession s → StandsFor given uuid texts s → s.sources ≡ None
    → HasSource s.counts from → IsFalse (count_of s.counts from).ended → counts ≡ with_fed s.counts from (length piece)
    → StandsFor given uuid (feed_step from piece texts) (record s { counts = counts })
feed_counts given uuid texts s from piece counts is stands none there open_ counted =
    settled_steps given uuid texts (feed_step from piece texts) s counts stands none (λ running. is.is_open running none)
    (fed_goes_on from piece texts (subst (λ (c : Counts). HasSource c from) stands.has_counts there)
    (subst (λ (c : Counts). IsFalse (count_of c from).ended) stands.has_counts open_))
    (counted ∙ ap (λ (c : Counts). with_fed c from (length piece)) stands.has_counts ∙ sym (counts_fed from piece texts))

-- after a refused allocation a session represents the streams with one more piece that it counts
pub feed_lacks : (given : LoadSettings) (uuid : List ℕ) (texts : Texts) (s : LoadSession) (from : Source) (piece : List
    ℕ) (counts : Counts) → LacksMemory given uuid texts s
    → HasSource s.counts from → IsFalse (count_of s.counts from).ended → counts ≡ with_fed s.counts from (length piece)
    → LacksMemory given uuid (feed_step from piece texts) (record s { counts = counts })
feed_lacks given uuid texts s from piece counts lacks there open_ counted =
    lacking_steps given uuid texts (feed_step from piece texts) s counts lacks
    (fed_goes_on from piece texts (subst (λ (c : Counts). HasSource c from) lacks.has_counts there)
    (subst (λ (c : Counts). IsFalse (count_of c from).ended) lacks.has_counts open_))
    (counted ∙ ap (λ (c : Counts). with_fed c from (length piece)) lacks.has_counts ∙ sym (counts_fed from piece texts))

-- a settled session counts an end
pub end_counts : (given : LoadSettings) (uuid : List ℕ) (texts : Texts) (s : LoadSession) (from : Source) (counts : Counts)
    → IsSession s → StandsFor given uuid texts s → s.sources ≡ None
    → counts ≡ with_end s.counts from → StandsFor given uuid (end_step from texts) (record s { counts = counts })
end_counts given uuid texts s from counts is stands none counted =
    settled_steps given uuid texts (end_step from texts) s counts stands none (λ running. is.is_open running none) (ended_goes_on from texts)
    (counted ∙ ap (λ (c : Counts). with_end c from) stands.has_counts ∙ sym (counts_ended from texts))

-- after a refused allocation a session represents the streams with a source that it counts as ended
pub end_lacks : (given : LoadSettings) (uuid : List ℕ) (texts : Texts) (s : LoadSession) (from : Source) (counts : Counts) → LacksMemory given uuid texts s
    → counts ≡ with_end s.counts from → LacksMemory given uuid (end_step from texts) (record s { counts = counts })
end_lacks given uuid texts s from counts lacks counted =
    lacking_steps given uuid texts (end_step from texts) s counts lacks (ended_goes_on from texts)
    (counted ∙ ap (λ (c : Counts). with_end c from) lacks.has_counts ∙ sym (counts_ended from texts))

-- it is still a session
pub is_session_still : (given : LoadSettings) (uuid : List ℕ) (counts : Counts) (places : Option Places) (now : Fed) (load : Option RoundLoad)
    (verdict : Verdict) (sources : Option Fed) (kept : Option RoundLoad) (over : Option Held) → Keeps verdict now load sources kept over
    → (verdict ≡ Running → StandsForSome (session given uuid counts places sources kept over verdict))
    → IsSession (session given uuid counts places sources kept over verdict)
is_session_still given uuid counts places now load verdict sources kept over keeps some = record {
  is_open = λ running none. let bad : Some now ≡ None = sym (keeps.running running).0 ∙ none in absurd cc;
  is_settled = λ other. (keeps.settled other).0;
  is_not_over = λ open_. elim (running_or_not verdict) [
    | inl running ↦ (keeps.running running).2
    | inr other ↦ absurd (open_ (keeps.settled other).0)
  ];
  stands = λ open_. elim (running_or_not verdict) [
    | inl running ↦ some running
    | inr other ↦ absurd (open_ (keeps.settled other).0)
  ];
}

-- ---- the valid prefixes of the streams

-- what is so of the streams that it represents as read
pub as_read : (given : LoadSettings) (uuid : List ℕ) (texts : Texts) (s t : LoadSession) (IsSo : Texts → Type 0) → t ≡ s
    → IsSession t → (stands : StandsFor given uuid texts s) → IsSo stands.read
    → AsRead given uuid texts s IsSo
as_read given uuid texts s t IsSo same is stands so =
    let here : IsSession s = subst IsSession same is in (
      stands.read,
      record { goes_on = stands.goes_on; has_read_all = λ running. stands.has_read_all (here.is_open running); is_answer = stands.is_answer_there },
      so,
    )

-- the notes of a session are those of the streams as far as it read them
pub places_read : (given : LoadSettings) (uuid : List ℕ) (texts : Texts) (s : LoadSession) (p : Places)
    → (stands : StandsFor given uuid texts s) → s.places ≡ Some p → HasPlaces given uuid stands.read p
places_read given uuid texts s p stands some = subst (λ (o : Option Places). HavePlaces given uuid stands.read o) some stands.have_places

-- a session that represents streams has notes
pub no_places_read : (given : LoadSettings) (uuid : List ℕ) (texts : Texts) (s : LoadSession) → StandsFor given uuid texts s → s.places ≡ None → ⊥
no_places_read given uuid texts s stands none = subst (λ (o : Option Places). HavePlaces given uuid stands.read o) none stands.have_places

noted_at : (R : Text → Noted → Type 0) (texts : List Text) (ns : List Noted) (j : ℕ) → AllZip R texts ns → j < length texts
    → (n : Noted) × (slice_get ns j ≡ Some n) × R (get_or texts j no_text) n
noted_at R [] ns j zip below = absurd (omega (arith, below))
noted_at R (text ∷ texts) [] j zip below = absurd zip
noted_at R (text ∷ texts) (n ∷ ns) zero zip below = (n, refl, zip.0)
noted_at R (text ∷ texts) (n ∷ ns) (suc j) zip below = noted_at R texts ns j zip.1 (omega (arith, below))

-- what is noted of a channel that there is
channel_read : (given : LoadSettings) (uuid : List ℕ) (texts : Texts) (s : LoadSession) (p : Places) (j : ℕ)
    → (stands : StandsFor given uuid texts s) → s.places ≡ Some p → HasSource s.counts (source.Channel j)
    → (n : Noted) × (slice_get p.channels j ≡ Some n)
    × IsNotedOfChannel (channel_of given uuid (length stands.read.channels)) (get_or stands.read.channels j no_text) n × (j < length stands.read.channels)
channel_read given uuid texts s p j stands some there =
    let read : Texts = stands.read in
    let counted : j < length (map count_in texts.channels) = subst (λ (c : Counts). j < length c.channels) stands.has_counts there in
    let below : j < length read.channels = omega
    (arith, counted, length-map texts.channels count_in, as_many_texts read.channels texts.channels stands.goes_on.channels) in
    let here = noted_at (IsNotedOfChannel (channel_of given uuid (length read.channels))) read.channels p.channels j
    (places_read given uuid texts s p stands some).channels below in
    (here.0, here.1, here.2, below)

-- each source, as far as the session read it, is valid up to its noted place
pub source_read : (given : LoadSettings) (uuid : List ℕ) (texts : Texts) (s : LoadSession) (p : Places) (from : Source)
    → (stands : StandsFor given uuid texts s) → s.places ≡ Some p → HasSource s.counts from
    → IsSourceValidUpTo given uuid stands.read from (place_of p from)
source_read given uuid texts s p source.Main stands some there = (places_read given uuid texts s p stands some).main.is_valid
source_read given uuid texts s p (source.Channel j) stands some there =
    let here = channel_read given uuid texts s p j stands some there in
    subst (λ (o : Option Noted). IsSourceValidUpTo given uuid stands.read (source.Channel j) (option_map (λ n. n.valid_up_to) o)) (sym here.1) here.2.is_valid

-- ---- the faults of their bytes

abbrev Are : Settings → List Text → List ChannelReading → Type 0
Are given texts readings = AllZip (λ (text : Text) (reading : ChannelReading). IsReading given text.bytes text.ended reading) texts readings

fault_at : (given : Settings) (texts : List Text) (readings : List ChannelReading) (j : ℕ) (found : Option Fault)
    → IsPageSize given.page_size → j < length texts
    → Are given texts readings → HasChannelFault given (get_or texts j no_text) found
    → found ≡ get_or (map (λ (r : ChannelReading). fault_of (channel_end r.state)) readings) j None
fault_at given [] readings j found size below are has = absurd (omega (arith, below))
fault_at given (text ∷ texts) [] j found size below are has = absurd are
fault_at given (text ∷ texts) (r ∷ readings) zero found size below are has = channel_fault given text r found size has are.0
fault_at given (text ∷ texts) (r ∷ readings) (suc j) found size below are has = fault_at given texts readings j found size (omega (arith, below)) are.1 has

-- a source's noted fault, or none, is that of its bytes as far as the session read them
pub fault_read : (given : LoadSettings) (uuid : List ℕ) (texts : Texts) (s : LoadSession) (p : Places) (from : Source)
    → (stands : StandsFor given uuid texts s) → s.places ≡ Some p → HasSource s.counts from
    → HasFault given uuid stands.read from (noted_fault p from)
fault_read given uuid texts s p source.Main stands some there =
    let one = some_readings given uuid stands.read stands.is_page_size in (
      one.0,
      one.1,
      main_fault given stands.read.main one.0.main p.main.fault stands.is_page_size
          (places_read given uuid texts s p stands some).main.has_fault one.1.has_main,
    )
fault_read given uuid texts s p (source.Channel j) stands some there =
    let one = some_readings given uuid stands.read stands.is_page_size in
    let here = channel_read given uuid texts s p j stands some there in
    let is = fault_at (channel_of given uuid (length stands.read.channels)) stands.read.channels one.0.channels j here.0.fault
    stands.is_page_size here.3 one.1.has_channels here.2.has_fault in
    (one.0, one.1, ap (option_and_then (λ (n : Noted). n.fault)) here.1 ∙ is)

-- a stream that is closed is so if other bytes follow
closed_on : (given : StreamSettings) (a b : Text) (o : Option ℕ) → GoesOn a b → stream.HasClosedAt given a.bytes o → IfSome o (stream.IsClosedAt given b.bytes)
closed_on given a b None go has = tt
closed_on given a b (Some n) go has = subst (λ (l : List ℕ). stream.IsClosedAt given l n) (sym go.has_bytes) (closed_more given a.bytes go.more n has)

-- if the main stream was closed when it was read, it is closed
pub closed_still : (s : LoadSession) (o : Option ℕ) (p : Places) → s.places ≡ Some p → o ≡ p.closed_at
    → IfSome o (λ n. (given : LoadSettings) (uuid : List ℕ) (texts : Texts) → StandsFor given uuid texts s
    → stream.IsClosedAt (main_of given) texts.main.bytes n)
closed_still s None p some is = tt
closed_still s (Some n) p some is = λ given uuid texts stands.
    let was : stream.HasClosedAt (main_of given) stands.read.main.bytes (Some n) =
    subst (λ (x : Option ℕ). stream.HasClosedAt (main_of given) stands.read.main.bytes x) (sym is) (places_read given uuid texts s p stands some).closed in
    closed_on (main_of given) stands.read.main texts.main (Some n) stands.goes_on.main was

-- whatever is answered, this holds of it where it is an Ok
pub any_ok : {X Y : Type 0} (r : Result X Y) (P : Type 0) → P → OnOk r P
any_ok (Ok x) P p = p
any_ok (Err y) P p = tt

-- what is asked of a session is asked of what it holds
pub has_source_of : (s t : LoadSession) (from : Source) → s ≡ t → HasSource t.counts from → HasSource s.counts from
has_source_of s t from same there = subst (λ (x : LoadSession). HasSource x.counts from) (sym same) there

-- a source that hasn't ended in a session hasn't in one that equals it
pub open_of : (s t : LoadSession) (from : Source) → s ≡ t → IsFalse (count_of t.counts from).ended → IsFalse (count_of s.counts from).ended
open_of s t from same open_ = subst (λ (x : LoadSession). IsFalse (count_of x.counts from).ended) (sym same) open_

-- and what has room
pub room_of : (s t : LoadSession) (from : Source) (n : ℕ) → s ≡ t → (count_of t.counts from).fed + n < 2 ^ 64 → (count_of s.counts from).fed + n < 2 ^ 64
room_of s t from n same room = subst (λ (x : LoadSession). (count_of x.counts from).fed + n < 2 ^ 64) (sym same) room

-- ---- whether all rounds are in

-- while it runs
pub all_in_running : (given : LoadSettings) (uuid : List ℕ) (texts : Texts) (s : LoadSession) (now : Fed) (told : Bool) (k : ℕ)
    → s.sources ≡ Some now → StandsFor given uuid texts s → k ≡ rounds_loaded s.target → TellAllIn k now.read told
    → IsTrue told ↔ HasAllRounds given uuid texts (answer_in s)
all_in_running given uuid texts s now told k some stands same tells =
    let is = stands.is_answer in
    let holds = (runs_of given uuid texts s now some stands).holds in (
      λ yes. record {
        readings = is.readings;
        are_readings = is.are_readings;
        have_only = subst (λ (n : ℕ). HaveOnly n is.readings) same ((tells given uuid texts is.readings stands.is_page_size holds is.are_readings).0 yes);
        have_passed = is.has_rounds.before;
        has_memory = is.has_memory;
      },
      λ all. (tells given uuid texts all.readings stands.is_page_size holds all.are_readings).1 (subst (λ (n : ℕ). HaveOnly n all.readings)
          (sym same) all.have_only),
    )

-- once it is done
no_fault : (state : ChannelState) → is_clean (channel_end state) ≡ true → fault_of (channel_end state) ≡ None
no_fault channel_state.Reading clean = absurd cc
no_fault channel_state.Closed clean = refl
no_fault (channel_state.Bad f) clean = absurd cc

abbrev standing_at : ℕ → (ℕ × ChannelReading) → Standing
standing_at k c = record { source = origin.Channel c.0; status = channel_status k c.1 }

channels_only : (k from : ℕ) (readings : List ChannelReading)
    → All (λ (s : Standing). is_clean s.status ≡ true) (map (standing_at k) (enumerate_from from readings)) → All (HasOnly k) readings
channels_only k from [] all = All-nil (HasOnly k)
channels_only k from (r ∷ readings) all =
    let rest : List Standing = map (standing_at k) (enumerate_from (from + 1) readings) in
    let at = clean_at k (length r.rounds) (channel_end r.state) (All-head (λ (s : Standing). is_clean s.status ≡ true) (standing_at k (from, r)) rest all) in
    All-cons (HasOnly k) r readings (record { has_rounds = sym at.0; has_no_fault = no_fault r.state at.1 })
    (channels_only k (from + 1) readings (All-tail (λ (s : Standing). is_clean s.status ≡ true) (standing_at k (from, r)) rest all))

-- if the verdict of a session is Done, all rounds are in
pub all_in_done : (given : LoadSettings) (uuid : List ℕ) (texts : Texts) (s : LoadSession) → StandsFor given uuid texts s
    → s.verdict ≡ Done → HasAllRounds given uuid texts (answer_in s)
all_in_done given uuid texts s stands done =
    let is = stands.is_answer in
    let k : ℕ = rounds_loaded s.target in
    let all = and_parts (is_clean (main_at k is.readings).status) (list_all (λ (x : Standing). is_clean x.status) (channels_at k is.readings))
    (done_is_clean k is.readings (sym is.has_verdict ∙ done)) in
    let main = clean_at k (length is.readings.main.rounds) (stream_end is.readings.main.state) all.0 in
    record {
      readings = is.readings;
      are_readings = is.are_readings;
      have_only = record {
        is_closed = stream_closed false is.readings.main.state main.1;
        has_all = sym main.0;
        channels = channels_only k 0 is.readings.channels (passes_all (λ (x : Standing). is_clean x.status) (channels_at k is.readings) all.1);
      };
      have_passed = is.has_rounds.before;
      has_memory = is.has_memory;
    }

-- ---- how many pages its rounds don't name

-- the number of pages is that of those which no counted round names, in the streams as far as the
-- session read them
pub missing_read : (given : LoadSettings) (uuid : List ℕ) (texts : Texts) (s : LoadSession) (n : Option ℕ)
    → (stands : StandsFor given uuid texts s) → n ≡ missing_in s.target
    → HasMissing given uuid stands.read (rounds_loaded s.target) n
missing_read given uuid texts s n stands is = record {
  readings = stands.has_missing.readings;
  are_readings = stands.has_missing.are_readings;
  is_count = is ∙ stands.has_missing.is_count;
}
