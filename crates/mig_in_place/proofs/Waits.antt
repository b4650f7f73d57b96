-- The law on bytes that wait.
use Rattle.std.proofs.Common.{ℕ, ◌≡◌, ◌≢◌, ◌<◌, ◌≤◌, ◌||◌, Bool, true, false, List, [], length, map, get_or, set, Option, Some, None, refl, sym, ap, subst, ◌∙◌}
use Rattle.std.proofs.Common.{inl, inr, arith}
use Rattle.std.specs.Prelude.{◌⊎◌, IsTrue}
use Rattle.std.specs.Option.{option_map_or}
use Rattle.std.specs.List.{AllZip, list_any}
use Rattle.std.proofs.lemmas.Bool.{cases_Bool, cases_lt}
use Rattle.std.proofs.lemmas.List.{length-set}
use Rattle.std.proofs.lemmas.List.Elements.{All-head}
use Rattle.mig_mem.specs.PageSize.{IsPageSize}
use Rattle.mig_mem.specs.declared.place.Place.{Place}
use Rattle.mig_mem.specs.RamTable.{RamTable}
use Rattle.mig_mem.specs.Place.{IsPlace}
use Rattle.mig_mem.specs.Image.{Page, Image, content_at}
use Rattle.mig_mem.specs.Round.{with_rounds, last_at}
use Rattle.mig_mem.proofs.Images.{content_at-image_of}
use Rattle.mig_mem.proofs.Rounds.{last_at-nil}
use Rattle.mig_stream.specs.declared.item.StreamState.{StreamState}
use Rattle.mig_stream.specs.declared.item.StreamState.TheVariants as stream_state
use Rattle.mig_stream.specs.PageRecord.{PageRecord}
use Rattle.mig_stream.specs.Reading.{StreamReading, state_at}
use Rattle.mig_stream.specs.Law.{StaysRead}
use Rattle.mig_stream.proofs.Exists.{one_reading_law as stream_law}
use Rattle.mig_packet.specs.Reading as channel
use Rattle.mig_load_types.specs.Settings.{for_table, main_of, channel_of}
use Rattle.mig_load_types.specs.declared.settings.LoadSettings.{LoadSettings}
use Rattle.mig_single_load.specs.InPlace.{IsOfOwnTable}
use Rattle.mig_single_load.proofs.Onto.{apart}
use Rattle.mig_answer.specs.declared.verdict.Verdict.TheVariants.{Running}
use Rattle.mig_answer.specs.declared.status.Status.{Status}
use Rattle.mig_answer.specs.declared.status.Status.TheVariants.{Whole, Clean, Bad, Pending}
use Rattle.mig_answer.specs.Status.{main_status, channel_status, stream_end, is_pending}
use Rattle.mig_answer.specs.Texts.{Text, Texts, Readings, IsMainReading, AreReadings, no_text}
use Rattle.mig_answer.specs.MultiLoad.{main_at, channels_at, sources_at, passes}
use Rattle.mig_answer.specs.Growing.{GoesOn}
use Rattle.mig_answer.proofs.Statuses.{stream_ends, status_end, status_behind}
use Rattle.mig_answer.proofs.Judged.{IsWhole, whole_at, has_round}
use Rattle.mig_answer.proofs.OneAnswer.{some_readings, same_main}
use Rattle.mig_answer.proofs.Growing.{ReadingsStay, readings_stay, pass_still, at_round, some_rounds}
use Rattle.mig_sources.specs.declared.source.Source.TheVariants as source
use Rattle.mig_in_place.specs.Named.{MainNames, SomeChannelNames, IsNamed}
use Rattle.mig_in_place.specs.Answer.{rounds_onto, IsInPlaceAnswer}
use Rattle.mig_in_place.specs.Session.{TakesBytes, IsHeldBack}
use Rattle.mig_in_place.specs.Law.{WaitingBytesChangeNothing}
use Rattle.mig_in_place.proofs.Done.{own_or_other}
use Rattle.mig_in_place.proofs.Names.{stream_over, main_stays_named, channels_stay_named}
use Rattle.mig_in_place.proofs.Waiting.{waits, main_kept, all_kept, one_kept, any_kept, main_goes, channel_goes, running_waits, waits_here, same_rounds_onto}

-- a status that is pending is Pending
pub pending_is : (s : Status) → is_pending s ≡ true → s ≡ Pending
pending_is Whole e = absurd cc
pending_is Clean e = absurd cc
pending_is (Bad f) e = absurd cc
pending_is Pending e = refl

kept_table : (before now : Option RamTable) → before ≢ None → ((x : RamTable) → before ≡ Some x → now ≡ Some x) → now ≡ before
kept_table None now some stays = absurd (some refl)
kept_table (Some x) now some stays = stays x refl

-- a main stream that isn't pending keeps its table, whether it has one or not
table_kept : (k : ℕ) (before now : StreamReading) → StaysRead before now → (before.table ≡ None → before.rounds ≡ [])
    → is_pending (main_status k before) ≡ false → now.table ≡ before.table
table_kept k before now stays first settled = elim (at_round k (length before.rounds) (stream_end before.state) settled) [
  | inl lt ↦ kept_table before.table now.table (λ none. some_rounds before.rounds k lt (first none)) stays.same_table
  | inr end ↦ ap (λ (r : StreamReading). r.table) (stays.same_once_over (stream_over before.state end.1))
]

-- ---- the answer on longer streams

-- With the same table, a source that is pending still, and at least the places that were named, the
-- answer is the same.
record GoesOnRunning (given : LoadSettings) (uuid : List ℕ) (first : Image) (k : ℕ) (texts new : Texts) (before now : Readings) : Type 0 where
  stay : ReadingsStay before now
  same_table : now.main.table ≡ before.main.table
  waits_still : list_any waits (sources_at k now) ≡ true
  named : (p : Place) → IsNamed given uuid first.table k texts p → IsNamed given uuid first.table k new p

runs_on : (given : LoadSettings) (uuid : List ℕ) (first : Image)
    (texts new : Texts) (memory : Image) (k : ℕ) (here : IsInPlaceAnswer given uuid first texts memory k Running)
    → IsOfOwnTable first here.readings.main → (now : Readings) → AreReadings (for_table first.table given) uuid new now
    → GoesOnRunning (for_table first.table given) uuid first k texts new here.readings now → IsInPlaceAnswer given uuid first new memory k Running
runs_on given uuid first texts new memory k here own now are on =
    let mine = here.own own in
    let shown = waits_here k now on.waits_still in
    let rounds : rounds_onto first k now ≡ rounds_onto first k here.readings =
    ap (λ (l : List (List Page)). with_rounds first l) (same_rounds_onto first k here.readings now on.stay mine.has_rounds.before) in
    record {
      readings = now;
      are_readings = are;
      own = λ _. record {
        has_rounds = record { before = pass_still here.readings now k on.stay mine.has_rounds.before; here = shown.0 };
        has_verdict = sym shown.1;
        has_memory = record {
          same_table = mine.has_memory.same_table;
          elsewhere = λ p is none. mine.has_memory.elsewhere p is (λ names. none (on.named p names)) ∙ ap (λ (m : Image). content_at m p) (sym rounds);
        };
      };
      unknown = λ none. here.unknown (sym on.same_table ∙ none);
      other = λ other. absurd (apart first now.main (subst (λ (o : Option RamTable). (o ≡ None) ⊎ (o ≡ Some first.table)) (sym on.same_table) own) other);
    }

-- ---- the main stream goes on

names_main : (given : LoadSettings) (k : ℕ) (text : Text) (step : Text → Text) (reading : StreamReading) (p : Place)
    → IsPageSize given.page_size → GoesOn text (step text)
    → IsMainReading given text reading → is_pending (main_status k reading) ≡ false → MainNames (main_of given) k text.bytes p
    → MainNames (main_of given) k (step text).bytes p
names_main given k text step reading p size goes is settled names = elim (cases_Bool text.ended) [
  | inl t ↦ subst (λ (x : Text). MainNames (main_of given) k x.bytes p) (sym (goes.stays_ended t)) names
  | inr f ↦
      let one = stream_law (main_of given) text.bytes size in
      let same : names.reading ≡ is.found = one.2 names.reading names.is_reading ∙ sym (one.2 is.found is.is_reading) in
      let as_read : reading ≡ is.found = is.has_end ∙ ap (λ (b : Bool). record is.found { state = state_at b is.found.state }) f in
      let there : is_pending (main_status k names.reading) ≡ false = ap (λ (r : StreamReading). is_pending (main_status k r)) (same ∙ sym as_read) ∙ settled in
      let at : (k < length names.reading.rounds) ⊎ (names.reading.state ≢ stream_state.Reading) =
      elim (at_round k (length names.reading.rounds) (stream_end names.reading.state) there) [
        | inl lt ↦ inl lt
        | inr end ↦ inr (stream_over names.reading.state end.1)
      ] in
      subst (λ (b : List ℕ). MainNames (main_of given) k b p) (sym goes.has_bytes) (main_stays_named (main_of given) k text.bytes goes.more p size names at)
]

main_goes_on : (given : LoadSettings) (uuid : List ℕ) (first : Image) (texts : Texts) (k : ℕ) (step : Text → Text)
    (before now : Readings) → IsPageSize given.page_size → GoesOn texts.main (step texts.main)
    → AreReadings given uuid texts before → AreReadings given uuid (record texts { main = step texts.main }) now
    → is_pending (main_status k before.main) ≡ false
    → list_any waits (sources_at k before) ≡ true → GoesOnRunning given uuid first k texts (record texts { main = step texts.main }) before now
main_goes_on given uuid first texts k step before now size goes was are settled waited =
    let stay = readings_stay given uuid texts (record texts { main = step texts.main }) before now size (main_goes texts step goes) was are in
    let status : main_status k now.main ≡ main_status k before.main = main_kept k before.main now.main stay.main settled in
    let channels = any_kept k 0 before.channels now.channels
    (all_kept (channel_of given uuid (length texts.channels)) k texts.channels before.channels now.channels size was.has_channels are.has_channels) in
    record {
      stay = stay;
      same_table = table_kept k before.main now.main stay.main stay.has_table_first settled;
      waits_still =
          ap (λ (s : Status). is_pending s || list_any waits (channels_at k now)) status
          ∙ ap (λ (b : Bool). is_pending (main_status k before.main) || b) channels ∙ waited;
      named = λ p names. elim names [
        | inl m ↦ inl (names_main given k texts.main step before.main p size goes was.has_main settled m)
        | inr c ↦ inr c
      ];
    }

-- ---- a channel goes on

-- the streams, with one channel replaced
abbrev with_channel : Texts → ℕ → (Text → Text) → Texts
with_channel texts j step = record texts { channels = set texts.channels j (step (get_or texts.channels j no_text)) }

same_count : (given : LoadSettings) (uuid : List ℕ) (texts : Texts) (j : ℕ) (step : Text → Text)
    → channel_of given uuid (length (with_channel texts j step).channels) ≡ channel_of given uuid (length texts.channels)
same_count given uuid texts j step = ap (channel_of given uuid) (length-set texts.channels j (step (get_or texts.channels j no_text)))

abbrev AreRead : channel.Settings → List Text → List channel.ChannelReading → Type 0
AreRead given texts readings = AllZip (λ (text : Text) (reading : channel.ChannelReading). channel.IsReading given text.bytes text.ended reading) texts readings

channel_goes_on : (given : LoadSettings) (uuid : List ℕ) (first : Image) (texts : Texts) (k j : ℕ) (step : Text → Text)
    (before now : Readings) → IsPageSize given.page_size → GoesOn (get_or texts.channels j no_text) (step (get_or texts.channels j no_text))
    → AreReadings given uuid texts before → AreReadings given uuid (with_channel texts j step) now
    → is_pending (get_or (map (channel_status k) before.channels) j Pending) ≡ false
    → list_any waits (sources_at k before) ≡ true → GoesOnRunning given uuid first k texts (with_channel texts j step) before now
channel_goes_on given uuid first texts k j step before now size goes was are settled waited =
    let s : channel.Settings = channel_of given uuid (length texts.channels) in
    let stay = readings_stay given uuid texts (with_channel texts j step) before now size (channel_goes texts j step goes) was are in
    let main : now.main ≡ before.main = same_main given texts.main now.main before.main size are.has_main was.has_main in
    let read : AreRead s (with_channel texts j step).channels now.channels =
    subst (λ (x : channel.Settings). AreRead x (with_channel texts j step).channels now.channels) (same_count given uuid texts j step) are.has_channels in
    let channels = any_kept k 0 before.channels now.channels
    (one_kept s k j step texts.channels before.channels now.channels size goes was.has_channels read settled) in
    record {
      stay = stay;
      same_table = ap (λ (r : StreamReading). r.table) main;
      waits_still =
          ap (λ (r : StreamReading). is_pending (main_status k r) || list_any waits (channels_at k now)) main
          ∙ ap (λ (b : Bool). is_pending (main_status k before.main) || b) channels ∙ waited;
      named = λ p names. elim names [
        | inl m ↦ inl m
        | inr c ↦ inr (subst (λ (x : channel.Settings). SomeChannelNames x first.table k (with_channel texts j step).channels p)
            (sym (same_count given uuid texts j step))
            (channels_stay_named s first.table k j step texts.channels before.channels p size goes was.has_channels settled c))
      ];
    }

-- ---- a channel that is held back

-- a main stream whose size list may still come is pending at each round
pub list_waits : (k : ℕ) (reading : StreamReading) → reading.rounds ≡ [] → reading.state ≡ stream_state.Reading → is_pending (main_status k reading) ≡ true
list_waits k reading none reads =
    let n : length reading.rounds ≡ 0 = ap (λ (l : List (List PageRecord)). length l) none in
    elim (cases_lt 0 k) [
      | inl lt ↦ ap is_pending (status_behind k (length reading.rounds) (stream_end reading.state) (omega (arith, lt, n)))
      | inr le ↦ ap is_pending (status_end k (length reading.rounds) (stream_end reading.state) (omega (arith, le, n)) ∙ ap stream_end reads)
    ]

no_rounds : (readings : Readings) (k : ℕ) → readings.main.rounds ≡ [] → ((j : ℕ) → j < k → IsTrue (passes j readings)) → k ≡ 0
no_rounds readings k none passed =
    let few : k ≤ length readings.main.rounds = has_round k (length readings.main.rounds) (stream_end readings.main.state) (stream_ends readings.main.state)
    (λ j below. All-head IsWhole (main_at j readings) (channels_at j readings) (whole_at readings j (passed j below))) in
    let no : length readings.main.rounds ≡ 0 = ap length none in
    omega (arith, few, no)

-- nothing was written
pub holds_first : (first memory : Image) (k : ℕ) (readings : Readings) (p : Place) → IsPlace first.table p → memory ≡ first
    → k ≡ 0 → content_at memory p ≡ content_at (rounds_onto first k readings) p
holds_first first memory k readings p is same none =
    let f : Place → List ℕ = λ q. option_map_or (λ (x : Page). x.content) (last_at q []) (content_at first q) in
    ap (λ (m : Image). content_at m p) same
    ∙ ap (λ (o : Option Page). option_map_or (λ (x : Page). x.content) o (content_at first p)) (sym (last_at-nil p))
    ∙ sym (content_at-image_of first.table f p is)
    ∙ ap (λ (n : ℕ). content_at (rounds_onto first n readings) p) (sym none)

held_back : (given : LoadSettings) (uuid : List ℕ) (first : Image) (texts : Texts) (memory : Image) (k j : ℕ) (step : Text → Text)
    → IsPageSize first.table.page_size → GoesOn (get_or texts.channels j no_text) (step (get_or texts.channels j no_text))
    → (here : IsInPlaceAnswer given uuid first texts memory k Running) → here.readings.main.table ≡ None → here.readings.main.state ≡ stream_state.Reading
    → IsInPlaceAnswer given uuid first (with_channel texts j step) memory k Running
held_back given uuid first texts memory k j step size goes here none reads =
    let g : LoadSettings = for_table first.table given in
    let before : Readings = here.readings in
    let mine = here.own (inl none) in
    let next = some_readings g uuid (with_channel texts j step) size in
    let now : Readings = next.0 in
    let stay = readings_stay g uuid texts (with_channel texts j step) before now size (channel_goes texts j step goes) here.are_readings next.1 in
    let main : now.main ≡ before.main = same_main g texts.main now.main before.main size next.1.has_main here.are_readings.has_main in
    let rounds : now.main.rounds ≡ [] = ap (λ (r : StreamReading). r.rounds) main ∙ stay.has_table_first none in
    let waiting : is_pending (main_status k now.main) ≡ true = list_waits k now.main rounds (ap (λ (r : StreamReading). r.state) main ∙ reads) in
    let still : list_any waits (sources_at k now) ≡ true = ap (λ (b : Bool). b || list_any waits (channels_at k now)) waiting in
    let shown = waits_here k now still in
    let passed = pass_still before now k stay mine.has_rounds.before in
    let zero_rounds : k ≡ 0 = no_rounds now k rounds passed in
    record {
      readings = now;
      are_readings = next.1;
      own = λ _. record {
        has_rounds = record { before = passed; here = shown.0 };
        has_verdict = sym shown.1;
        has_memory = record {
          same_table = mine.has_memory.same_table;
          elsewhere = λ p is _. holds_first first memory k now p is (here.unknown none) zero_rounds;
        };
      };
      unknown = λ _. here.unknown none;
      other = λ other. let t : now.main.table ≡ None = ap (λ (r : StreamReading). r.table) main ∙ none in
          let s : now.main.table ≡ Some other.0 = other.1 in absurd cc;
    }

-- ---- the law

module _ (given : LoadSettings) (uuid : List ℕ) (first : Image) (texts : Texts) (memory : Image)
    (k j : ℕ) (step : Text → Text) (size : IsPageSize first.table.page_size)
    (goes : GoesOn (get_or texts.channels j no_text) (step (get_or texts.channels j no_text))) (here : IsInPlaceAnswer given uuid first texts memory k Running)
    (not_taken : TakesBytes (for_table first.table given) uuid k texts (source.Channel j) → ⊥) where
  pending_channel : get_or (map (channel_status k) here.readings.channels) j Pending ≡ Pending
      → IsInPlaceAnswer given uuid first (with_channel texts j step) memory k Running
  pending_channel pending = go here.readings.main.table refl
    where
      free : (IsHeldBack here.readings (source.Channel j) → ⊥) → IsInPlaceAnswer given uuid first (with_channel texts j step) memory k Running
      free is_free = absurd (not_taken (record { readings = here.readings; are_readings = here.are_readings; is_pending = pending; is_free = is_free }))

      state : (s : StreamState) → here.readings.main.state ≡ s → here.readings.main.table ≡ None
          → IsInPlaceAnswer given uuid first (with_channel texts j step) memory k Running
      state stream_state.Reading reads none = held_back given uuid first texts memory k j step size goes here none reads
      state stream_state.Closed closed none = free (λ held. let e = sym held.1 ∙ closed in absurd cc)
      state (stream_state.Bad f) bad none = free (λ held. let e = sym held.1 ∙ bad in absurd cc)

      go : (o : Option RamTable) → here.readings.main.table ≡ o → IsInPlaceAnswer given uuid first (with_channel texts j step) memory k Running
      go None none = state here.readings.main.state refl none
      go (Some table) known = free (λ held. let e = sym held.0 ∙ known in absurd cc)

-- bytes of a source that aren't taken, or its end, leave a running load's answer the same
pub waiting_law : WaitingBytesChangeNothing
waiting_law given uuid first texts memory k source.Main new is_table goes not_taken here = let step : Text → Text = λ text. new in
    elim (own_or_other first here.readings.main) [
      | inr other ↦ absurd (let bad = (here.other other).has_verdict in cc)
      | inl own ↦
          let g : LoadSettings = for_table first.table given in
          let mine = here.own own in
          let next = some_readings g uuid (record texts { main = step texts.main }) is_table.has_page_size in
          let waited = running_waits k here.readings mine.has_rounds (sym mine.has_verdict) in
          elim (cases_Bool (is_pending (main_status k here.readings.main))) [
            | inl t ↦ absurd (not_taken (record {
              readings = here.readings;
              are_readings = here.are_readings;
              is_pending = pending_is (main_status k here.readings.main) t;
              is_free = λ held. held;
            }))
            | inr f ↦ runs_on given uuid first texts (record texts { main = step texts.main }) memory k here own next.0 next.1
                (main_goes_on g uuid first texts k step here.readings next.0 is_table.has_page_size goes here.are_readings next.1 f waited)
          ]
    ]
waiting_law given uuid first texts memory k (source.Channel j) new is_table goes not_taken here = let step : Text
    → Text = λ text. new in elim (own_or_other first here.readings.main) [
      | inr other ↦ absurd (let bad = (here.other other).has_verdict in cc)
      | inl own ↦
          let g : LoadSettings = for_table first.table given in
          let mine = here.own own in
          let next = some_readings g uuid (with_channel texts j step) is_table.has_page_size in
          let waited = running_waits k here.readings mine.has_rounds (sym mine.has_verdict) in
          elim (cases_Bool (is_pending (get_or (map (channel_status k) here.readings.channels) j Pending))) [
            | inl t ↦ pending_channel given uuid first texts memory k j step is_table.has_page_size goes here not_taken
                (pending_is (get_or (map (channel_status k) here.readings.channels) j Pending) t)
            | inr f ↦ runs_on given uuid first texts (with_channel texts j step) memory k here own next.0 next.1
                (channel_goes_on g uuid first texts k j step here.readings next.0 is_table.has_page_size goes here.are_readings next.1 f waited)
          ]
    ]
