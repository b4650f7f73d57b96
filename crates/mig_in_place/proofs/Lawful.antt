-- A round that all sources have is judged by what is kept of it.
use Rattle.std.proofs.Common.{ℕ, ◌≡◌, ◌+◌, ◌<◌, Bool, false, List, [], ◌∷◌, ◌++◌, length, map, get_or, Option, Some, None, refl, sym, ap, subst, ◌∙◌, inl, inr}
use Rattle.std.proofs.Common.{arith}
use Rattle.std.specs.Prelude.{if◌then◌else◌, IsTrue, IsFalse, zip, IsPermutation}
use Rattle.std.specs.List.{AllZip, All, flat_map, enumerate_from}
use Rattle.std.specs.Option.{option_and_then}
use Rattle.std.proofs.lemmas.Bool.{cases_Bool}
use Rattle.std.proofs.lemmas.List.{append-nil, get_or_default, map-append}
use Rattle.std.proofs.lemmas.List.Elements.{All-head, All-tail, All-nil, All-cons}
use Rattle.mig_mem.specs.PageSize.{IsPageSize}
use Rattle.mig_mem.specs.First.{first_some}
use Rattle.mig_mem.specs.RamTable.{RamTable}
use Rattle.mig_mem.specs.Image.{Page, Image}
use Rattle.mig_stream.specs.PageRecord.{PageRecord}
use Rattle.mig_packet.specs.Packet.{Fields, fields_of}
use Rattle.mig_packet.specs.Reading.{Settings, ChannelReading, IsReading}
use Rattle.mig_packet.specs.Paging.{GivenSoFar, OpenPacket}
use Rattle.mig_assemble.specs.declared.fault.RoundFault.{RoundFault}
use Rattle.mig_assemble.specs.Judging.{refusal}
use Rattle.mig_assemble.specs.Arrivals.{records_in, packets_in, refusal_of, IsJudged}
use Rattle.mig_assemble.proofs.Bags.{bag_permutation}
use Rattle.mig_assemble.proofs.OrderFree.{refusal_bag}
use Rattle.mig_assemble.proofs.Heads.{heads_judged}
use Rattle.mig_load_types.specs.Settings.{main_of, for_table, channel_of}
use Rattle.mig_load_types.specs.declared.settings.LoadSettings.{LoadSettings}
use Rattle.mig_load_types.specs.declared.fault.Origin.TheVariants as origin
use Rattle.mig_load_types.specs.declared.fault.Fault.TheVariants as fault
use Rattle.mig_answer.specs.Status.{channel_end, stream_end, channel_status, is_whole}
use Rattle.mig_answer.specs.Texts.{Text, Readings, AreReadings}
use Rattle.mig_answer.specs.Rounds.{record_pages_at, channel_packets_at, base_at, refusal_at, refusal_of as refusal_of_table}
use Rattle.mig_answer.specs.MultiLoad.{Standing, main_at, channels_at, passes, verdict_at, failed}
use Rattle.mig_answer.proofs.Statuses.{stream_ends, channel_ends}
use Rattle.mig_answer.proofs.ToldSources.{told_at}
use Rattle.mig_answer.proofs.Judged.{IsWhole}
use Rattle.mig_answer.proofs.OneAnswer.{same_readings}
use Rattle.mig_answer.proofs.GrowingMain.{main_table_first}
use Rattle.mig_sources.proofs.Due.{due_sources, due_passes, due_refused, whole_below}
use Rattle.mig_in_place.specs.Answer.{rounds_onto}
use Rattle.mig_packet.specs.PacketHead.{as_zeros}
use Rattle.mig_in_place.specs.Round.{KeptRound, KeepsSame}
use Rattle.mig_in_place.specs.Sources.{KeptChannel, HoldsMain, HoldsChannel, HoldsRound, heads_given, heads_begun, packets_given, rounds_come}
use Rattle.mig_in_place.specs.Session.{InPlaceLoad, IsRunning, Loading, Loads, Stands, IsDue, PassesAt, records_come}
use Rattle.mig_in_place.proofs.Channels.{rounds_given, rounds_are}
use Rattle.mig_in_place.proofs.Heading.{same_heads}
use Rattle.mig_in_place.proofs.Mains.{none_waits}
use Rattle.mig_in_place.proofs.Told.{stands_at}

-- ---- a source that has the round

-- how many packets of the round a reading has, as bytes
abbrev pub packets_of : ℕ → ChannelReading → List (List ℕ)
packets_of k reading = get_or reading.rounds k []

-- a channel whose reading has round k has it complete: the heads given are the packets of that
-- round, and no packet of the next one has begun
pub heads_whole : (given : Settings) (table : RamTable) (k : ℕ) (text : Text) (so_far : GivenSoFar) (c : KeptChannel) (reading : ChannelReading)
    → IsPageSize given.page_size
    → HoldsChannel given table k text so_far c → IsReading given text.bytes text.ended reading → k < length reading.rounds
    → IsTrue c.is_whole × (heads_given k so_far ≡ packets_of k reading) × (so_far.packet ≡ None) × (so_far.read.packets ≡ [])
heads_whole given table k text so_far c reading size holds is below =
    let count = rounds_are given table k text so_far c reading size holds is in
    let whole : IsTrue c.is_whole = (elim (cases_Bool c.is_whole) [
      | inl t ↦ t
      | inr open_ ↦ absurd (let n : length reading.rounds ≡ k = count ∙ ap (rounds_come k) open_ in omega (arith, n, below))
    ]) in
    let between = holds.is_between whole in
    let same : reading.rounds ≡ so_far.read.rounds = rounds_given given table k text so_far c reading size holds is in
    let there : k < length so_far.read.rounds = subst (λ (l : List (List (List ℕ))). k < length l) same below in (
      whole,
      ap (λ (o : Option OpenPacket). packets_given k so_far ++ heads_begun o) between.1 ∙ append-nil (packets_given k so_far)
          ∙ get_or_default so_far.read.rounds k so_far.read.packets [] there ∙ ap (λ (l : List (List (List ℕ))). get_or l k []) (sym same),
      between.1,
      between.0,
    )

abbrev AreRead : Settings → List Text → List ChannelReading → Type 0
AreRead given texts readings = AllZip (λ (text : Text) (reading : ChannelReading). IsReading given text.bytes text.ended reading) texts readings

all_heads : (given : Settings) (table : RamTable) (k : ℕ) (texts : List Text) (gave : List GivenSoFar) (channels : List
    KeptChannel) (readings : List ChannelReading) → IsPageSize given.page_size
    → length gave ≡ length texts → AllZip (λ c kept. HoldsChannel given table k c.0 c.1 kept) (zip texts gave) channels → AreRead given texts readings
    → All (λ (r : ChannelReading). k < length r.rounds) readings → flat_map (heads_given k) gave ≡ flat_map (packets_of k) readings
all_heads given table k [] [] channels [] size many holds are all = refl
all_heads given table k [] [] channels (r ∷ readings) size many holds are all = absurd are
all_heads given table k [] (g ∷ gave) channels readings size many holds are all = absurd (omega (arith, many))
all_heads given table k (text ∷ texts) [] channels readings size many holds are all = absurd (omega (arith, many))
all_heads given table k (text ∷ texts) (g ∷ gave) [] readings size many holds are all = absurd holds
all_heads given table k (text ∷ texts) (g ∷ gave) (c ∷ channels) [] size many holds are all = absurd are
all_heads given table k (text ∷ texts) (g ∷ gave) (c ∷ channels) (r ∷ readings) size many holds are all =
    let here = heads_whole given table k text g c r size holds.0 are.0 (All-head (λ (x : ChannelReading). k < length x.rounds) r readings all) in
    ap (λ (l : List (List ℕ)). l ++ flat_map (heads_given k) gave) here.1
    ∙ ap (λ (l : List (List ℕ)). packets_of k r ++ l)
    (all_heads given table k texts gave channels readings size (omega (arith, many)) holds.1 are.1
    (All-tail (λ (x : ChannelReading). k < length x.rounds) r readings all))

-- the standings of the channels are whole
each_whole : (k n : ℕ) (readings : List ChannelReading)
    → All IsWhole (map (λ (c : ℕ × ChannelReading). record { source = origin.Channel c.0; status = channel_status k c.1 }) (enumerate_from n readings))
    → All (λ (r : ChannelReading). k < length r.rounds) readings
each_whole k n [] all = All-nil (λ (r : ChannelReading). k < length r.rounds)
each_whole k n (r ∷ readings) all =
    let more : List Standing = map (λ (c : ℕ × ChannelReading). record {
      source = origin.Channel c.0;
      status = channel_status k c.1;
    }) (enumerate_from (n + 1) readings) in
    let one : Standing = record { source = origin.Channel n; status = channel_status k r } in
    All-cons (λ (x : ChannelReading). k < length x.rounds) r readings
    (whole_below k (length r.rounds) (channel_end r.state) (channel_ends r.state) (All-head IsWhole one more all))
    (each_whole k (n + 1) readings (All-tail IsWhole one more all))

-- the fields of all channels' packets of round k are those that the readings have at round k
pub fields_mapped : (size k : ℕ) (readings : List ChannelReading)
    → map (fields_of size) (flat_map (packets_of k) readings) ≡ flat_map (channel_packets_at size k) readings
fields_mapped size k [] = refl
fields_mapped size k (r ∷ readings) =
    map-append (fields_of size) (packets_of k r) (flat_map (packets_of k) readings)
    ∙ ap (λ (l : List Fields). channel_packets_at size k r ++ l) (fields_mapped size k readings)

-- ---- the round

module _ (f : Loading) (memory : Image) (s : InPlaceLoad) (loads : Loads f memory s) (due : IsDue f s.rounds) where
  abbrev given : LoadSettings
  given = for_table f.first.table f.given

  abbrev r : IsRunning given f.uuid f.first f.texts memory s
  r = loads.is_running

  abbrev k : ℕ
  k = s.rounds

  abbrev size : IsPageSize given.page_size
  size = loads.is_table.has_page_size

  abbrev channel_given : Settings
  channel_given = channel_of given f.uuid (length f.texts.channels)

  abbrev none_told : first_some (told_at k r.readings) ≡ None
  none_told = due r.readings r.are_readings

  pub main_has : k < length r.readings.main.rounds
  main_has = whole_below k (length r.readings.main.rounds) (stream_end r.readings.main.state) (stream_ends r.readings.main.state)
      (All-head IsWhole (main_at k r.readings) (channels_at k r.readings) (due_sources k r.readings none_told).0)

  pub channels_have : All (λ (x : ChannelReading). k < length x.rounds) r.readings.channels
  channels_have = each_whole k 0 r.readings.channels (All-tail IsWhole (main_at k r.readings) (channels_at k r.readings) (due_sources k r.readings none_told).0)

  pub main_whole : IsTrue s.sources.main.is_whole
  main_whole = elim (cases_Bool s.sources.main.is_whole) [
    | inl t ↦ t
    | inr open_ ↦
        let holds : HoldsMain (main_of given) k f.texts.main (record { reader = s.sources.main.reader; is_whole = false }) =
        subst (λ (b : Bool). HoldsMain (main_of given) k f.texts.main (record { reader = s.sources.main.reader; is_whole = b })) open_ r.main in
        let none : k ≡ length r.readings.main.rounds =
        none_waits given k f.texts.main s.sources.main.reader r.readings.main size holds r.are_readings.has_main in
        absurd (omega (arith, none, main_has))
  ]

  -- the table is known
  pub has_table : r.readings.main.table ≡ Some f.first.table
  has_table = elim r.is_own [
    | inr own ↦ own
    | inl none ↦ absurd (let empty : length r.readings.main.rounds ≡ 0 =
        ap (λ (l : List (List PageRecord)). length l) (main_table_first given f.texts.main r.readings.main size r.are_readings.has_main none) in
        omega (arith, empty, main_has))
  ]

  abbrev holds : HoldsRound f.first.table (rounds_onto f.first k r.readings) k
      (record { records = records_come f.first.table.page_size k r.readings s.sources.main; channels = r.gave }) s.round memory
  holds = r.own has_table

  pub all_records : records_in holds.arrivals ≡ record_pages_at f.first.table.page_size k r.readings
  all_records = holds.has_records ∙ ap (λ (b : Bool). if b then record_pages_at f.first.table.page_size k r.readings else []) main_whole

  pub given_heads : flat_map (heads_given k) r.gave ≡ flat_map (packets_of k) r.readings.channels
  given_heads = all_heads channel_given f.first.table k f.texts.channels r.gave s.sources.channels r.readings.channels size
      r.as_many r.channels r.are_readings.has_channels channels_have

  pub all_packets : IsPermutation (packets_in holds.arrivals) (map as_zeros (flat_map (packets_of k) r.readings.channels))
  all_packets = subst (λ (l : List (List ℕ)). IsPermutation (packets_in holds.arrivals) (map as_zeros l)) given_heads holds.has_packets

  -- it is judged as the round of the readings
  pub judged_as : refusal_at k r.readings ≡ refusal_of f.first.table s.base holds.arrivals
  judged_as =
      let table : RamTable = f.first.table in
      let p : ℕ = table.page_size in
      let H : List (List ℕ) = flat_map (packets_of k) r.readings.channels in
      let records : List Page = record_pages_at p k r.readings in
      ap (λ (o : Option RamTable). option_and_then (λ t. refusal_of_table t k r.readings) o) has_table
      ∙ ap (λ (l : List Fields). refusal table (base_at k r.readings) records l) (sym (fields_mapped p k r.readings.channels))
      ∙ sym (heads_judged table (base_at k r.readings) records (map as_zeros H) (map (fields_of p) H) (same_heads p H))
      ∙ sym (refusal_bag table (base_at k r.readings) records (packets_in holds.arrivals) (map as_zeros H)
      (bag_permutation (packets_in holds.arrivals) (map as_zeros H) all_packets))
      ∙ ap (λ (l : List Page). refusal table (base_at k r.readings) l (packets_in holds.arrivals)) (sym all_records)
      ∙ ap (λ (n : ℕ). refusal table n (records_in holds.arrivals) (packets_in holds.arrivals)) (sym r.has_base)

  pub lawful_passes : IsJudged s.base s.round.arrivals None → PassesAt f k
  lawful_passes judged = λ readings are.
      let same : r.readings ≡ readings = same_readings given f.uuid f.texts r.readings readings size r.are_readings are in
      subst (λ (x : Readings). IsTrue (passes k x)) same
      (due_passes k r.readings none_told (judged_as ∙ judged f.first.table holds.arrivals holds.keeps.has_come))

  refused_at : (why : RoundFault) → IsJudged s.base s.round.arrivals (Some why) → (readings : Readings) → AreReadings given f.uuid f.texts readings
      → IsFalse (passes k readings) × (failed k origin.Round (fault.Round why) ≡ verdict_at k readings)
  refused_at why judged readings are =
      let same : r.readings ≡ readings = same_readings given f.uuid f.texts r.readings readings size r.are_readings are in
      let stops = due_refused k r.readings why none_told (judged_as ∙ judged f.first.table holds.arrivals holds.keeps.has_come) in
      (subst (λ (x : Readings). IsFalse (passes k x)) same stops.0, stops.1 ∙ ap (λ (x : Readings). verdict_at k x) same)

  pub refused_stands : (why : RoundFault) (now : KeptRound) → IsJudged s.base s.round.arrivals (Some why) → Loads f memory (record s { round = now })
      → Stands f memory (record s { round = now; verdict = failed k origin.Round (fault.Round why) })
  refused_stands why now judged after =
      let stops = refused_at why judged after.is_running.readings after.is_running.are_readings in
      stands_at f memory (record s { round = now }) (failed k origin.Round (fault.Round why)) after stops.0 stops.1

-- what was judged is the same round
pub judged_loads : (f : Loading) (memory : Image) (s : InPlaceLoad) (now : KeptRound) → KeepsSame s.round now
    → now.has_misplaced ≡ s.round.has_misplaced → Loads f memory s
    → Loads f memory (record s { round = now })
judged_loads f memory s now same misplaced loads =
    let r = loads.is_running in
    record {
      is_table = loads.is_table;
      is_image = loads.is_image;
      same_table = loads.same_table;
      is_running = record {
        readings = r.readings;
        are_readings = r.are_readings;
        is_own = r.is_own;
        have_passed = r.have_passed;
        main = r.main;
        gave = r.gave;
        as_many = r.as_many;
        has_channel = r.has_channel;
        channels = r.channels;
        has_base = r.has_base;
        has_named = r.has_named;
        own = λ own. (let holds = r.own own in record {
          arrivals = holds.arrivals;
          keeps = same f.first.table holds.arrivals holds.keeps;
          has_records = holds.has_records;
          has_packets = holds.has_packets;
          written = holds.written;
          has_memory = holds.has_memory;
          are_named = holds.are_named;
          are_all = λ right. holds.are_all (sym misplaced ∙ right);
        });
        writes = λ own right. r.writes own (sym misplaced ∙ right);
        unknown = λ none. ((r.unknown none).0, (r.unknown none).1, same f.first.table [] (r.unknown none).2);
        is_unwritten = r.is_unwritten;
        awaited = r.awaited;
      };
    }
