-- The readings of streams that stay when they continue.
use Rattle.std.proofs.Common.{ℕ, ◌≡◌, ◌≢◌, ◌+◌, ◌<◌, ◌≤◌, Bool, true, false, ◌&&◌, List, [], ◌∷◌, ◌++◌, length, map, flat_map, get_or, refl, sym, ap, subst}
use Rattle.std.proofs.Common.{◌∙◌, inl, inr, Option, Some, None, is_none, option_map, option_and_then, sum_by, arith}
use Rattle.std.specs.Prelude.{◌⊎◌, IsTrue}
use Rattle.std.specs.Option.{unwrap_or}
use Rattle.std.specs.List.{All, AllZip, list_all, list_any, enumerate_from, range_with_len}
use Rattle.std.proofs.lemmas.Bool.{cases_Bool, cases_order, cases_lt, or_parts}
use Rattle.std.proofs.lemmas.List.Elements.{All-nil, All-cons, All-head, All-tail, length_all_zip}
use Rattle.std.proofs.lemmas.List.Sums.{sum_by-cons}
use Rattle.mig_mem.specs.PageSize.{IsPageSize}
use Rattle.mig_mem.specs.RamTable.{RamTable}
use Rattle.mig_mem.specs.PlaceSet.{PlaceSet}
use Rattle.mig_mem.specs.First.{first_some}
use Rattle.mig_mem.specs.Image.{Page, Image}
use Rattle.mig_mem.specs.Round.{after}
use Rattle.mig_packet.proofs.Heads.{same_map}
use Rattle.mig_assemble.specs.declared.fault.RoundFault.{RoundFault}
use Rattle.mig_assemble.specs.Judging.{refusal, all_round_pages}
use Rattle.mig_assemble.specs.NamedPlaces.{named_by}
use Rattle.mig_stream.specs.declared.item.StreamState.{StreamState}
use Rattle.mig_stream.specs.declared.item.StreamState.TheVariants as stream
use Rattle.mig_stream.specs.PageRecord.{PageRecord, page_of}
use Rattle.mig_stream.specs.Reading.{StreamReading}
use Rattle.mig_stream.specs.Law.{StaysRead}
use Rattle.mig_packet.specs.declared.state.ChannelState.{ChannelState}
use Rattle.mig_packet.specs.declared.state.ChannelState.TheVariants as channel
use Rattle.mig_packet.specs.Packet.{Fields, fields_of}
use Rattle.mig_packet.specs.Reading.{Settings, ChannelReading, IsReading}
use Rattle.mig_load_types.specs.Settings.{channel_of}
use Rattle.mig_load_types.specs.declared.settings.LoadSettings.{LoadSettings}
use Rattle.mig_load_types.specs.declared.fault.Origin.TheVariants as origin
use Rattle.mig_load_types.specs.declared.fault.Fault.TheVariants as fault
use Rattle.mig_answer.specs.declared.verdict.Verdict.{Verdict}
use Rattle.mig_answer.specs.declared.verdict.Verdict.TheVariants.{Running}
use Rattle.mig_answer.specs.declared.status.Status.{Status}
use Rattle.mig_answer.specs.declared.status.Status.TheVariants.{Whole, Clean, Bad, Pending}
use Rattle.mig_answer.specs.Status.{status_at, main_status, channel_status, stream_end, channel_end, is_whole, is_pending}
use Rattle.mig_answer.specs.Texts.{Text, Texts, Readings, AreReadings}
use Rattle.mig_answer.specs.Rounds.{record_pages_at, channel_packets_at, packets_at, packet_count_at, base_at, refusal_of, refusal_at, pages_at, memory_at}
use Rattle.mig_answer.specs.Rounds.{named_at}
use Rattle.mig_answer.specs.MultiLoad.{Standing, main_standing, main_at, channels_at, sources_at, hello_ids, repeated_hello, passes, failed, sources_verdicts}
use Rattle.mig_answer.specs.MultiLoad.{verdict_at}
use Rattle.mig_answer.specs.Growing.{GoesOn, GoOn, AnswersStay, WithoutMemoryStays, RoundsStay}
use Rattle.mig_answer.proofs.Statuses.{status_whole, status_end, stream_ends, status_behind}
use Rattle.mig_answer.proofs.Judged.{IsWhole, IsFinal, has_round, whole_at}
use Rattle.mig_answer.proofs.OneAnswer.{some_readings}
use Rattle.mig_answer.proofs.GrowingChannels.{ChannelStays, channel_stays, round_of_more}
use Rattle.mig_answer.proofs.GrowingMain.{main_stays, main_table_first}
use Rattle.mig_answer.proofs.ReceivedTogether.{same_sums}

-- What is read of all streams stays read. There was no round before the table.
pub record ReadingsStay (before now : Readings) : Type 0 where
  pub main : StaysRead before.main now.main
  pub channels : AllZip ChannelStays before.channels now.channels
  pub has_table_first : before.main.table ≡ None → before.main.rounds ≡ []

-- ---- streams that go on

channels_stay : (given : Settings) (olds news : List Text) (befores nows : List ChannelReading) → IsPageSize given.page_size → AllZip GoesOn olds news
    → AllZip (λ (text : Text) (reading : ChannelReading). IsReading given text.bytes text.ended reading) olds befores
    → AllZip (λ (text : Text) (reading : ChannelReading). IsReading given text.bytes text.ended reading) news nows
    → AllZip ChannelStays befores nows
channels_stay given [] [] [] [] size go are_before are_now = tt
channels_stay given [] [] [] (y ∷ nows) size go are_before are_now = absurd are_now
channels_stay given [] [] (x ∷ befores) nows size go are_before are_now = absurd are_before
channels_stay given [] (new ∷ news) befores nows size go are_before are_now = absurd go
channels_stay given (old ∷ olds) [] befores nows size go are_before are_now = absurd go
channels_stay given (old ∷ olds) (new ∷ news) [] nows size go are_before are_now = absurd are_before
channels_stay given (old ∷ olds) (new ∷ news) (x ∷ befores) [] size go are_before are_now = absurd are_now
channels_stay given (old ∷ olds) (new ∷ news) (x ∷ befores) (y ∷ nows) size go are_before are_now = (
  channel_stays given old new x y size go.0 are_before.0 are_now.0,
  channels_stay given olds news befores nows size go.1 are_before.1 are_now.1,
)

-- if streams grow, their readings stay and go on
pub readings_stay : (given : LoadSettings) (uuid : List ℕ) (old new : Texts) (before now : Readings) → IsPageSize given.page_size → GoOn old new
    → AreReadings given uuid old before → AreReadings given uuid new now → ReadingsStay before now
readings_stay given uuid old new before now size go are_before are_now =
    let many : length new.channels ≡ length old.channels = sym (length_all_zip GoesOn old.channels new.channels go.channels) in
    record {
      main = main_stays given old.main new.main before.main now.main size go.main are_before.has_main are_now.has_main;
      channels = channels_stay (channel_of given uuid (length old.channels)) old.channels new.channels before.channels
          now.channels size go.channels are_before.has_channels
          (subst (λ (n : ℕ). AllZip (λ (text : Text) (reading : ChannelReading). IsReading
          (channel_of given uuid n) text.bytes text.ended reading) new.channels now.channels)
          many are_now.has_channels);
      has_table_first = main_table_first given old.main before.main size are_before.has_main;
    }

-- ---- a source that isn't pending at a round stands there as it did

-- it has the round, or has come to it and has nothing more to come
pub at_round : (k rounds : ℕ) (end : Status) → is_pending (status_at k rounds end) ≡ false → (k < rounds) ⊎ ((k ≡ rounds) × (is_pending end ≡ false))
at_round k rounds end settled = elim (cases_order k rounds) [
  | inl e ↦ inr (e, sym (ap is_pending (status_end k rounds end e)) ∙ settled)
  | inr ne ↦ elim ne [
    | inl lt ↦ inl lt
    | inr gt ↦ absurd (let waits : is_pending (status_at k rounds end) ≡ true = ap is_pending (status_behind k rounds end gt) in cc)
  ]
]

stream_over : (s : StreamState) → is_pending (stream_end s) ≡ false → s ≢ stream.Reading
stream_over stream.Reading settled = absurd cc
stream_over stream.Closed settled = λ e. absurd cc
stream_over (stream.Bad f) settled = λ e. absurd cc

channel_over : (s : ChannelState) → is_pending (channel_end s) ≡ false → s ≢ channel.Reading
channel_over channel.Reading settled = absurd cc
channel_over channel.Closed settled = λ e. absurd cc
channel_over (channel.Bad f) settled = λ e. absurd cc

-- a list that has an element at a number isn't empty
pub some_rounds : {X : Type 0} (rounds : List X) (k : ℕ) → k < length rounds → rounds ≢ []
some_rounds rounds k below none = let e : length rounds ≡ 0 = ap length none in omega (arith, below, e)

kept : {X : Type 0} (before now : Option X) → before ≢ None → ((x : X) → before ≡ Some x → now ≡ Some x) → now ≡ before
kept None now some stays = absurd (some refl)
kept (Some x) now some stays = stays x refl

-- the main stream says the same of round k
record SameMain (k : ℕ) (before now : StreamReading) : Type 0 where
  same_table : now.table ≡ before.table
  same_status : main_status k now ≡ main_status k before
  same_round : get_or now.rounds k [] ≡ get_or before.rounds k []

same_main_at : (k : ℕ) (before now : StreamReading) → StaysRead before now → (before.table ≡ None → before.rounds ≡ [])
    → is_pending (main_status k before) ≡ false → SameMain k before now
same_main_at k before now stays first settled = elim (at_round k (length before.rounds) (stream_end before.state) settled) [
  | inl lt ↦
      let longer = round_of_more before.rounds now.rounds stays.more_rounds k stays.has_rounds lt in
      record {
        same_table = kept before.table now.table (λ none. some_rounds before.rounds k lt (first none)) stays.same_table;
        same_status = status_whole k (length now.rounds) (stream_end now.state) longer.0
            ∙ sym (status_whole k (length before.rounds) (stream_end before.state) lt);
        same_round = longer.1;
      }
  | inr end ↦
      let same : now ≡ before = stays.same_once_over (stream_over before.state end.1) in
      record {
        same_table = ap (λ (r : StreamReading). r.table) same;
        same_status = ap (main_status k) same;
        same_round = ap (λ (r : StreamReading). get_or r.rounds k []) same;
      }
]

-- and so does a channel, and of its hello
record SameChannel (k : ℕ) (before now : ChannelReading) : Type 0 where
  same_hello : now.hello ≡ before.hello
  same_status : channel_status k now ≡ channel_status k before
  same_round : get_or now.rounds k [] ≡ get_or before.rounds k []

same_channel_at : (k : ℕ) (before now : ChannelReading) → ChannelStays before now → is_pending (channel_status k before) ≡ false → SameChannel k before now
same_channel_at k before now stays settled = elim (at_round k (length before.rounds) (channel_end before.state) settled) [
  | inl lt ↦
      let longer = round_of_more before.rounds now.rounds stays.more_rounds k stays.has_rounds lt in
      record {
        same_hello = stays.same_hello (λ none. some_rounds before.rounds k lt (stays.has_hello_first none));
        same_status = status_whole k (length now.rounds) (channel_end now.state) longer.0
            ∙ sym (status_whole k (length before.rounds) (channel_end before.state) lt);
        same_round = longer.1;
      }
  | inr end ↦
      let same : now ≡ before = stays.same_once_over (channel_over before.state end.1) in
      record {
        same_hello = ap (λ (r : ChannelReading). r.hello) same;
        same_status = ap (channel_status k) same;
        same_round = ap (λ (r : ChannelReading). get_or r.rounds k []) same;
      }
]

abbrev standing_at : ℕ → (ℕ × ChannelReading) → Standing
standing_at k c = record { source = origin.Channel c.0; status = channel_status k c.1 }

same_channels_at : (k n : ℕ) (befores nows : List ChannelReading) → AllZip ChannelStays befores nows
    → All IsFinal (map (standing_at k) (enumerate_from n befores)) → AllZip (SameChannel k) befores nows
same_channels_at k n [] [] stay settled = tt
same_channels_at k n [] (y ∷ nows) stay settled = absurd stay
same_channels_at k n (x ∷ befores) [] stay settled = absurd stay
same_channels_at k n (x ∷ befores) (y ∷ nows) stay settled =
    let rest : List Standing = map (standing_at k) (enumerate_from (n + 1) befores) in (
      same_channel_at k x y stay.0 (All-head IsFinal (standing_at k (n, x)) rest settled),
      same_channels_at k (n + 1) befores nows stay.1 (All-tail IsFinal (standing_at k (n, x)) rest settled),
    )

-- all sources say the same of round k
record SameAt (k : ℕ) (before now : Readings) : Type 0 where
  main : SameMain k before.main now.main
  channels : AllZip (SameChannel k) before.channels now.channels

same_at : (k : ℕ) (before now : Readings) → ReadingsStay before now → All IsFinal (sources_at k before) → SameAt k before now
same_at k before now stay settled = record {
  main = same_main_at k before.main now.main stay.main stay.has_table_first (All-head IsFinal (main_at k before) (channels_at k before) settled);
  channels = same_channels_at k 0 before.channels now.channels stay.channels (All-tail IsFinal (main_at k before) (channels_at k before) settled);
}

-- ---- and so do the channels together

same_standings : (k n : ℕ) (befores nows : List ChannelReading) → AllZip (SameChannel k) befores nows
    → map (standing_at k) (enumerate_from n nows) ≡ map (standing_at k) (enumerate_from n befores)
same_standings k n [] [] same = refl
same_standings k n [] (y ∷ nows) same = absurd same
same_standings k n (x ∷ befores) [] same = absurd same
same_standings k n (x ∷ befores) (y ∷ nows) same =
    ap (λ (s : Status). record { source = origin.Channel n; status = s } ∷ map (standing_at k) (enumerate_from (n + 1) nows)) same.0.same_status
    ∙ ap (λ (ss : List Standing). standing_at k (n, x) ∷ ss) (same_standings k (n + 1) befores nows same.1)

same_hellos : (k : ℕ) (befores nows : List ChannelReading) → AllZip (SameChannel k) befores nows
    → map (λ (c : ChannelReading). c.hello) nows ≡ map (λ (c : ChannelReading). c.hello) befores
same_hellos k [] [] same = refl
same_hellos k [] (y ∷ nows) same = absurd same
same_hellos k (x ∷ befores) [] same = absurd same
same_hellos k (x ∷ befores) (y ∷ nows) same =
    ap (λ (id : Option ℕ). id ∷ map (λ (c : ChannelReading). c.hello) nows) same.0.same_hello
    ∙ ap (λ (ids : List (Option ℕ)). x.hello ∷ ids) (same_hellos k befores nows same.1)

same_packets : (p k : ℕ) (befores nows : List ChannelReading) → AllZip (SameChannel k) befores nows
    → flat_map (channel_packets_at p k) nows ≡ flat_map (channel_packets_at p k) befores
same_packets p k [] [] same = refl
same_packets p k [] (y ∷ nows) same = absurd same
same_packets p k (x ∷ befores) [] same = absurd same
same_packets p k (x ∷ befores) (y ∷ nows) same =
    ap (λ (round : List (List ℕ)). map (fields_of p) round ++ flat_map (channel_packets_at p k) nows) same.0.same_round
    ∙ ap (λ (packets : List Fields). channel_packets_at p k x ++ packets) (same_packets p k befores nows same.1)

abbrev count_at : ℕ → ChannelReading → ℕ
count_at k reading = length (get_or reading.rounds k [])

same_count : (k : ℕ) (befores nows : List ChannelReading) → AllZip (SameChannel k) befores nows → sum_by (count_at k) nows ≡ sum_by (count_at k) befores
same_count k [] [] same = refl
same_count k [] (y ∷ nows) same = absurd same
same_count k (x ∷ befores) [] same = absurd same
same_count k (x ∷ befores) (y ∷ nows) same =
    sum_by-cons (count_at k) y nows
    ∙ ap (λ (round : List (List ℕ)). length round + sum_by (count_at k) nows) same.0.same_round
    ∙ ap (λ (n : ℕ). count_at k x + n) (same_count k befores nows same.1)
    ∙ sym (sum_by-cons (count_at k) x befores)

-- ---- rounds that passed

whole_settled : (s : Status) → is_whole s ≡ true → is_pending s ≡ false
whole_settled Whole e = refl
whole_settled Clean e = refl
whole_settled (Bad f) e = refl
whole_settled Pending e = absurd cc

all_settled : (sources : List Standing) → All IsWhole sources → All IsFinal sources
all_settled [] all = All-nil IsFinal
all_settled (s ∷ sources) all =
    All-cons IsFinal s sources (whole_settled s.status (All-head IsWhole s sources all)) (all_settled sources (All-tail IsWhole s sources all))

abbrev HavePassed : ℕ → Readings → Type 0
HavePassed k readings = (j : ℕ) → j < k → IsTrue (passes j readings)

same_passed : (before now : Readings) (k : ℕ) → ReadingsStay before now → HavePassed k before → (j : ℕ) → j < k → SameAt j before now
same_passed before now k stay passed j below = same_at j before now stay (all_settled (sources_at j before) (whole_at before j (passed j below)))

-- the number of the first packet of a round stays if the streams grow
pub base_still : (before now : Readings) (k : ℕ) → ReadingsStay before now → ((j : ℕ) → j < k → IsTrue (passes j before)) → base_at k now ≡ base_at k before
base_still before now k stay passed =
    same_sums (λ i. packet_count_at i now) (λ i. packet_count_at i before) 0 k
    (λ i below. same_count i before.channels now.channels (same_passed before now k stay passed i (omega (arith, below))).channels)

-- ---- what is judged at a round

same_sources : (k : ℕ) (before now : Readings) → SameAt k before now → sources_at k now ≡ sources_at k before
same_sources k before now same =
    ap (λ (s : Status). main_standing s ∷ channels_at k now) same.main.same_status
    ∙ ap (λ (ss : List Standing). main_at k before ∷ ss) (same_standings k 0 before.channels now.channels same.channels)

same_records : (p k : ℕ) (before now : Readings) → SameAt k before now → record_pages_at p k now ≡ record_pages_at p k before
same_records p k before now same = ap (λ (round : List PageRecord). map (page_of p) round) same.main.same_round

same_then : {X Y : Type 0} (f g : X → Option Y) (o : Option X) → ((x : X) → f x ≡ g x) → option_and_then f o ≡ option_and_then g o
same_then f g None same = refl
same_then f g (Some x) same = same x

same_mapped : {X Y : Type 0} (f g : X → Y) (o : Option X) → ((x : X) → f x ≡ g x) → option_map f o ≡ option_map g o
same_mapped f g None same = refl
same_mapped f g (Some x) same = ap Some (same x)

same_refusal_of : (table : RamTable) (k : ℕ) (before now : Readings) → SameAt k before now → base_at k now ≡ base_at k before
    → refusal_of table k now ≡ refusal_of table k before
same_refusal_of table k before now same base =
    let p : ℕ = table.page_size in
    ap (λ (n : ℕ). refusal table n (record_pages_at p k now) (packets_at p k now)) base
    ∙ ap (λ (pages : List Page). refusal table (base_at k before) pages (packets_at p k now)) (same_records p k before now same)
    ∙ ap (λ (packets : List Fields). refusal table (base_at k before) (record_pages_at p k before) packets)
    (same_packets p k before.channels now.channels same.channels)

same_refusal : (k : ℕ) (before now : Readings) → SameAt k before now → base_at k now ≡ base_at k before → refusal_at k now ≡ refusal_at k before
same_refusal k before now same base =
    ap (option_and_then (λ (table : RamTable). refusal_of table k now)) same.main.same_table
    ∙ same_then (λ (table : RamTable). refusal_of table k now) (λ (table : RamTable). refusal_of table k before) before.main.table
    (λ table. same_refusal_of table k before now same base)

abbrev passes_by : List Standing → List (Option ℕ) → Option RoundFault → Bool
passes_by sources ids refused = list_all (λ (s : Standing). is_whole s.status) sources && is_none (repeated_hello ids) && is_none refused

same_passes : (k : ℕ) (before now : Readings) → SameAt k before now → base_at k now ≡ base_at k before → passes k now ≡ passes k before
same_passes k before now same base =
    ap (λ (ss : List Standing). passes_by ss (hello_ids now) (refusal_at k now)) (same_sources k before now same)
    ∙ ap (λ (ids : List (Option ℕ)). passes_by (sources_at k before) ids (refusal_at k now)) (same_hellos k before.channels now.channels same.channels)
    ∙ ap (λ (o : Option RoundFault). passes_by (sources_at k before) (hello_ids before) o) (same_refusal k before now same base)

abbrev verdict_by : ℕ → Status → List Standing → List (Option ℕ) → Option RoundFault → Verdict
verdict_by k status channels ids refused =
    unwrap_or
    (first_some (sources_verdicts k (main_standing status) channels (repeated_hello ids) ++ option_map
    (λ f. failed k origin.Round (fault.Round f)) refused ∷ []))
    Running

same_verdict : (k : ℕ) (before now : Readings) → SameAt k before now → base_at k now ≡ base_at k before → verdict_at k now ≡ verdict_at k before
same_verdict k before now same base =
    ap (λ (s : Status). verdict_by k s (channels_at k now) (hello_ids now) (refusal_at k now)) same.main.same_status
    ∙ ap (λ (ss : List Standing). verdict_by k (main_status k before.main) ss (hello_ids now) (refusal_at k now))
    (same_standings k 0 before.channels now.channels same.channels)
    ∙ ap (λ (ids : List (Option ℕ)). verdict_by k (main_status k before.main) (channels_at k before) ids (refusal_at k now))
    (same_hellos k before.channels now.channels same.channels)
    ∙ ap (λ (o : Option RoundFault). verdict_by k (main_status k before.main) (channels_at k before) (hello_ids before) o) (same_refusal k before now same base)

-- rounds that all sources passed stay passed if the streams grow
pub pass_still : (before now : Readings) (k : ℕ) → ReadingsStay before now → ((j : ℕ) → j < k → IsTrue (passes j before))
    → (j : ℕ) → j < k → IsTrue (passes j now)
pass_still before now k stay passed j below =
    let base : base_at j now ≡ base_at j before = base_still before now j stay (λ i lt. passed i (omega (arith, lt, below))) in
    same_passes j before now (same_passed before now k stay passed j below) base ∙ passed j below

-- ---- the memory

same_pages : (table : RamTable) (k : ℕ) (before now : Readings) → SameAt k before now → pages_at table k now ≡ pages_at table k before
same_pages table k before now same =
    let p : ℕ = table.page_size in
    ap (λ (pages : List Page). all_round_pages table pages (packets_at p k now)) (same_records p k before now same)
    ∙ ap (λ (packets : List Fields). all_round_pages table (record_pages_at p k before) packets) (same_packets p k before.channels now.channels same.channels)

abbrev memory_of : ℕ → Readings → RamTable → Image
memory_of k readings table = after table (map (λ i. pages_at table i readings) (range_with_len 0 k))

same_memory : (before now : Readings) (k : ℕ) → ReadingsStay before now → HavePassed k before → now.main.table ≡ before.main.table
    → memory_at k now ≡ memory_at k before
same_memory before now k stay passed table =
    ap (option_map (memory_of k now)) table
    ∙ same_mapped (memory_of k now) (memory_of k before) before.main.table
    (λ t. ap (after t) (same_map (λ i. pages_at t i now) (λ i. pages_at t i before) 0 k
    (λ i below. same_pages t i before now (same_passed before now k stay passed i (omega (arith, below))))))

mapped_some : {X Y : Type 0} (f : X → Y) (o : Option X) (y : Y) → option_map f o ≡ Some y → o ≢ None
mapped_some f None y e = absurd cc
mapped_some f (Some x) y e = λ none. absurd cc

-- the memory after passed rounds stays if the streams grow
pub memory_still : (before now : Readings) (k : ℕ) (memory : Image) → ReadingsStay before now → ((j : ℕ) → j < k → IsTrue (passes j before))
    → memory_at k before ≡ Some memory → memory_at k now ≡ Some memory
memory_still before now k memory stay passed e =
    let some : before.main.table ≢ None = mapped_some (memory_of k before) before.main.table memory e in
    same_memory before now k stay passed (kept before.main.table now.main.table some stay.main.same_table) ∙ e

-- ---- the places that rounds named

abbrev names_of : ℕ → Readings → RamTable → PlaceSet
names_of k readings table = named_by table (map (λ i. pages_at table i readings) (range_with_len 0 k))

same_named : (before now : Readings) (k : ℕ) → ReadingsStay before now → HavePassed k before → now.main.table ≡ before.main.table
    → named_at k now ≡ named_at k before
same_named before now k stay passed table =
    ap (option_map (names_of k now)) table
    ∙ same_mapped (names_of k now) (names_of k before) before.main.table
    (λ t. ap (named_by t) (same_map (λ i. pages_at t i now) (λ i. pages_at t i before) 0 k
    (λ i below. same_pages t i before now (same_passed before now k stay passed i (omega (arith, below))))))

-- the places named by passed rounds stay if the streams grow
pub named_still : (before now : Readings) (k : ℕ) (named : PlaceSet) → ReadingsStay before now → ((j : ℕ) → j < k → IsTrue (passes j before))
    → named_at k before ≡ Some named → named_at k now ≡ Some named
named_still before now k named stay passed e =
    let some : before.main.table ≢ None = mapped_some (names_of k before) before.main.table named e in
    same_named before now k stay passed (kept before.main.table now.main.table some stay.main.same_table) ∙ e

-- ---- answers

-- if no element of a list passes, each one fails the test
pub none_passes : {X : Type 0} (test : X → Bool) (xs : List X) → list_any test xs ≡ false → All (λ x. test x ≡ false) xs
none_passes test [] e = All-nil (λ x. test x ≡ false)
none_passes test (x ∷ xs) e =
    let parts = or_parts (test x) (list_any test xs) e in
    All-cons (λ x. test x ≡ false) x xs parts.0 (none_passes test xs parts.1)

-- if the verdict isn't `Running` no source is pending
judged_settled : (k : ℕ) (readings : Readings) → verdict_at k readings ≢ Running → All IsFinal (sources_at k readings)
judged_settled k readings judged = elim (cases_Bool (list_any (λ (s : Standing). is_pending s.status) (sources_at k readings))) [
  | inl t ↦ absurd (judged (rw t refl))
  | inr f ↦ none_passes (λ (s : Standing). is_pending s.status) (sources_at k readings) f
]

-- an answer stays if the streams grow
pub answers_law : AnswersStay
answers_law = λ given uuid old new answer size go is judged.
    let k : ℕ = answer.rounds in
    let before : Readings = is.readings in
    let next = some_readings given uuid new size in
    let now : Readings = next.0 in
    let stay : ReadingsStay before now = readings_stay given uuid old new before now size go is.are_readings next.1 in
    let same : SameAt k before now = same_at k before now stay (judged_settled k before (λ e. judged (is.has_verdict ∙ e))) in
    let passed : HavePassed k before = is.has_rounds.before in
    let base : base_at k now ≡ base_at k before = base_still before now k stay passed in
    record {
      readings = now;
      are_readings = next.1;
      has_rounds = record { before = pass_still before now k stay passed; here = same_passes k before now same base ∙ is.has_rounds.here };
      has_memory = is.has_memory ∙ sym (same_memory before now k stay passed same.main.same_table);
      has_verdict = is.has_verdict ∙ sym (same_verdict k before now same base);
    }

some_or_none : {X : Type 0} (o : Option X) → (o ≡ None) ⊎ (o ≢ None)
some_or_none None = inl refl
some_or_none (Some x) = inr (λ none. absurd cc)

-- no round has passed where there is no table
none_passed : (readings : Readings) (k : ℕ) → (readings.main.table ≡ None → readings.main.rounds ≡ []) → HavePassed k readings
    → readings.main.table ≡ None → k ≡ 0
none_passed readings k first passed none =
    let few : k ≤ length readings.main.rounds = has_round k (length readings.main.rounds) (stream_end readings.main.state) (stream_ends readings.main.state)
    (λ j below. All-head IsWhole (main_at j readings) (channels_at j readings) (whole_at readings j (passed j below))) in
    let no : length readings.main.rounds ≡ 0 = ap length (first none) in
    omega (arith, few, no)

wants_memory : (before now : Readings) (k : ℕ) (memory : Option Image) → ReadingsStay before now → HavePassed k before
    → (memory ≡ memory_at k before) ⊎ ((memory ≡ None) × (k ≡ 0)) → (memory ≡ memory_at k now) ⊎ ((memory ≡ None) × (k ≡ 0))
wants_memory before now k memory stay passed (inr none) = inr none
wants_memory before now k memory stay passed (inl e) = elim (some_or_none before.main.table) [
  | inl none ↦ inr (e ∙ ap (option_map (memory_of k before)) none, none_passed before k stay.has_table_first passed none)
  | inr some ↦ inl (e ∙ sym (same_memory before now k stay passed (kept before.main.table now.main.table some stay.main.same_table)))
]

-- an answer without memory stays the answer if the streams grow
pub wants_law : WithoutMemoryStays
wants_law = λ given uuid old new answer size go is.
    let next = some_readings given uuid new size in
    let stay : ReadingsStay is.readings next.0 = readings_stay given uuid old new is.readings next.0 size go is.are_readings next.1 in
    record {
      readings = next.0;
      are_readings = next.1;
      have_passed = pass_still is.readings next.0 answer.rounds stay is.have_passed;
      has_memory = wants_memory is.readings next.0 answer.rounds answer.memory stay is.have_passed is.has_memory;
      has_verdict = is.has_verdict;
    }

-- rounds that were counted stay counted if the streams grow
pub rounds_law : RoundsStay
rounds_law = λ given uuid old new before after size go is_before is_after.
    let stay = readings_stay given uuid old new is_before.readings is_after.readings size go is_before.are_readings is_after.are_readings in
    elim (cases_lt after.rounds before.rounds) [
      | inr le ↦ le
      | inl lt ↦
          let t : passes after.rounds is_after.readings ≡ true =
          pass_still is_before.readings is_after.readings before.rounds stay is_before.has_rounds.before after.rounds lt in
          let f : passes after.rounds is_after.readings ≡ false = is_after.has_rounds.here in absurd cc
    ]
