-- The verdict of the sources of a load in place at the current round.
use Rattle.std.proofs.Common.{ℕ, ◌≡◌, ◌+◌, Bool, true, false, List, [], ◌∷◌, ◌++◌, length, map, Option, Some, None, refl, sym, ap, subst, ◌∙◌, inl, inr, arith}
use Rattle.std.specs.Prelude.{if◌then◌else◌, IsFalse, zip}
use Rattle.std.specs.List.{AllZip, flat_map, enumerate_from}
use Rattle.std.proofs.lemmas.Bool.{cases_Bool}
use Rattle.std.proofs.lemmas.List.Concat.{flat_map-append}
use Rattle.mig_mem.specs.PageSize.{IsPageSize}
use Rattle.mig_mem.specs.First.{first_some}
use Rattle.mig_mem.specs.declared.place.Place.{Place}
use Rattle.mig_mem.specs.RamTable.{RamTable}
use Rattle.mig_mem.specs.Place.{has_place}
use Rattle.mig_mem.specs.Image.{Image}
use Rattle.mig_packet.specs.Reading.{Settings, ChannelReading, IsReading}
use Rattle.mig_packet.specs.Paging.{GivenSoFar}
use Rattle.mig_assemble.specs.Judging.{places_of}
use Rattle.mig_assemble.proofs.Elements.{contains_here, contains_later}
use Rattle.mig_load_types.specs.Settings.{for_table, channel_of}
use Rattle.mig_load_types.specs.declared.fault.Origin.TheVariants as origin
use Rattle.mig_load_types.specs.declared.fault.Fault.TheVariants as fault
use Rattle.mig_load_types.specs.declared.settings.LoadSettings.{LoadSettings}
use Rattle.mig_answer.specs.declared.status.Status.{Status}
use Rattle.mig_answer.specs.declared.verdict.Verdict.{Verdict}
use Rattle.mig_answer.specs.Status.{main_status, channel_status}
use Rattle.mig_answer.specs.Texts.{Text, Texts, Readings}
use Rattle.mig_answer.specs.Rounds.{record_pages_at}
use Rattle.mig_answer.specs.MultiLoad.{Standing, main_standing, main_at, channels_at, hello_ids, repeated_hello, sources_verdicts, passes, verdict_at, failed}
use Rattle.mig_answer.specs.Told.{standings}
use Rattle.mig_answer.proofs.ToldSources.{told_at}
use Rattle.mig_answer.proofs.OneAnswer.{same_readings}
use Rattle.mig_sources.proofs.Due.{told_here}
use Rattle.mig_in_place.specs.Named.{SomeChannelNames, IsNamed}
use Rattle.mig_in_place.specs.Answer.{HasRoundsOnto, IsInPlaceWithoutMemory, rounds_onto}
use Rattle.mig_in_place.specs.Sources.{KeptChannel, HoldsChannel, TellsMainStatus, TellsChannelStatus, TellsHello, heads_given, head_places, named_places}
use Rattle.mig_in_place.specs.Session.{InPlaceLoad, IsRunning, LacksMemory, Loading, Loads, Stands, IsDue, TellsVerdict, Lacks, records_come}
use Rattle.mig_in_place.proofs.NamedSoFar.{in_either, main_named, channel_named}
use Rattle.mig_in_place.proofs.Places.{running_taken}
use Rattle.mig_in_place.proofs.Waits.{holds_first}
use Rattle.mig_in_place.proofs.Writing.{stays_elsewhere}

-- ---- each channel beside what it gave

-- if each stream, with what was given of it, is related to its channel, then for each channel
-- something was given so
pub hold_each : {K : Type 0} (R : Text → GivenSoFar → K → Type 0) (texts : List Text) (gave : List GivenSoFar) (channels : List K) → length gave ≡ length texts
    → AllZip (λ c kept. R c.0 c.1 kept) (zip texts gave) channels → AllZip (λ text kept. (so_far : GivenSoFar) × R text so_far kept) texts channels
hold_each R [] [] [] same holds = tt
hold_each R [] [] (c ∷ channels) same holds = absurd holds
hold_each R [] (g ∷ gave) channels same holds = absurd (omega (arith, same))
hold_each R (text ∷ texts) [] channels same holds = absurd (omega (arith, same))
hold_each R (text ∷ texts) (g ∷ gave) [] same holds = absurd holds
hold_each R (text ∷ texts) (g ∷ gave) (c ∷ channels) same holds = ((g, holds.0), hold_each R texts gave channels (omega (arith, same)) holds.1)

abbrev Holds : Settings → RamTable → ℕ → Text → KeptChannel → Type 0
Holds given table k text c = (so_far : GivenSoFar) × HoldsChannel given table k text so_far c

abbrev AreRead : Settings → List Text → List ChannelReading → Type 0
AreRead given texts readings = AllZip (λ (text : Text) (reading : ChannelReading). IsReading given text.bytes text.ended reading) texts readings

-- what each channel reports is a function of its reading
each_is : {V : Type 0} (Tells : KeptChannel → V → Type 0) (value : ChannelReading → V) (given : Settings) (table : RamTable) (k : ℕ)
    → ((c : KeptChannel) (v : V) (text : Text) (reading : ChannelReading) → Tells c v → Holds given table k text c
    → IsReading given text.bytes text.ended reading → v ≡ value reading)
    → (texts : List Text) (readings : List ChannelReading) (channels : List KeptChannel) (told : List V)
    → AllZip (Holds given table k) texts channels → AreRead given texts readings → AllZip Tells channels told
    → told ≡ map value readings
each_is Tells value given table k one [] [] [] [] holds are tells = refl
each_is Tells value given table k one [] readings (c ∷ channels) told holds are tells = absurd holds
each_is Tells value given table k one [] (r ∷ readings) channels told holds are tells = absurd are
each_is Tells value given table k one [] [] [] (v ∷ told) holds are tells = absurd tells
each_is Tells value given table k one (text ∷ texts) readings [] told holds are tells = absurd holds
each_is Tells value given table k one (text ∷ texts) [] (c ∷ channels) told holds are tells = absurd are
each_is Tells value given table k one (text ∷ texts) (r ∷ readings) (c ∷ channels) [] holds are tells = absurd tells
each_is {V} Tells value given table k one (text ∷ texts) (r ∷ readings) (c ∷ channels) (v ∷ told) holds are tells =
    ap (λ (x : V). x ∷ told) (one c v text r tells.0 holds.0 are.0)
    ∙ ap (λ (l : List V). value r ∷ l) (each_is Tells value given table k one texts readings channels told holds.1 are.1 tells.1)

standings_are : (k from : ℕ) (readings : List ChannelReading)
    → map {B = Standing} (λ (s : ℕ × Status). record { source = origin.Channel s.0; status = s.1 }) (enumerate_from from (map (channel_status k) readings))
    ≡ map {B = Standing} (λ (c : ℕ × ChannelReading). record { source = origin.Channel c.0; status = channel_status k c.1 }) (enumerate_from from readings)
standings_are k from [] = refl
standings_are k from (r ∷ readings) = ap
    (λ (l : List Standing). record { source = origin.Channel from; status = channel_status k r } ∷ l) (standings_are k (from + 1) readings)

-- ---- all of them

module _ (f : Loading) (memory : Image) (s : InPlaceLoad) (loads : Loads f memory s) where
  abbrev given : LoadSettings
  given = for_table f.first.table f.given

  abbrev channel_given : Settings
  channel_given = channel_of given f.uuid (length f.texts.channels)

  abbrev r : IsRunning given f.uuid f.first f.texts memory s
  r = loads.is_running

  abbrev size : IsPageSize given.page_size
  size = loads.is_table.has_page_size

  pub hold : AllZip (Holds channel_given f.first.table s.rounds) f.texts.channels s.sources.channels
  hold = hold_each (HoldsChannel channel_given f.first.table s.rounds) f.texts.channels r.gave s.sources.channels r.as_many r.channels

  pub told_is : (main_told : Status) (statuses : List Status) (hellos : List
      (Option ℕ)) (repeated : Option ℕ) (told : Option Verdict) → TellsMainStatus s.sources.main main_told
      → AllZip TellsChannelStatus s.sources.channels statuses → AllZip TellsHello s.sources.channels hellos → repeated ≡ repeated_hello hellos
      → told ≡ first_some (sources_verdicts s.rounds (main_standing main_told) (standings statuses) repeated) → told ≡ first_some (told_at s.rounds r.readings)
  told_is main_told statuses hellos repeated told tells_main tells_statuses tells_hellos again e =
      let k : ℕ = s.rounds in
      let m : main_told ≡ main_status k r.readings.main = tells_main given k f.texts.main r.readings.main size r.main r.are_readings.has_main in
      let here : statuses ≡ map (channel_status k) r.readings.channels =
      each_is TellsChannelStatus (channel_status k) channel_given f.first.table k
      (λ c v text reading tells holds is. tells channel_given f.first.table k text holds.0 reading size holds.1 is)
      f.texts.channels r.readings.channels s.sources.channels statuses hold r.are_readings.has_channels tells_statuses in
      let c : standings statuses ≡ channels_at k r.readings = ap standings here ∙ standings_are k 0 r.readings.channels in
      let ids : hellos ≡ hello_ids r.readings =
      each_is TellsHello (λ (x : ChannelReading). x.hello) channel_given f.first.table k
      (λ c v text reading tells holds is. tells channel_given f.first.table k text holds.0 reading size holds.1 is)
      f.texts.channels r.readings.channels s.sources.channels hellos hold r.are_readings.has_channels tells_hellos in
      e ∙ ap (λ (x : Status). first_some (sources_verdicts k (main_standing x) (standings statuses) repeated)) m
      ∙ ap (λ (l : List Standing). first_some (sources_verdicts k (main_at k r.readings) l repeated)) c
      ∙ ap (λ (o : Option ℕ). first_some (sources_verdicts k (main_at k r.readings) (channels_at k r.readings) o)) (again ∙ ap repeated_hello ids)

  -- ---- the memory

  pub all_named : (p : Place)
      → has_place (named_places f.first.table s.rounds
      (record { records = records_come f.first.table.page_size s.rounds r.readings s.sources.main; channels = r.gave })) p ≡ true
      → IsNamed given f.uuid f.first.table s.rounds f.texts p
  all_named p t = elim (in_either (places_of (records_come f.first.table.page_size s.rounds r.readings s.sources.main))
      (flat_map (head_places f.first.table) (flat_map (heads_given s.rounds) r.gave)) p t) [
        | inl record_ ↦ inl (elim (cases_Bool s.sources.main.is_whole) [
          | inl whole ↦ main_named given s.rounds f.first.table.page_size f.texts.main r.readings.main s.sources.main p size
              r.main r.are_readings.has_main whole
              (subst (λ (b : Bool). has_place (places_of
              (if b then record_pages_at f.first.table.page_size s.rounds r.readings else [])) p ≡ true) whole record_)
          | inr open_ ↦ absurd (let none : false ≡ true =
              subst (λ (b : Bool). has_place (places_of
              (if b then record_pages_at f.first.table.page_size s.rounds r.readings else [])) p ≡ true) open_ record_ in cc)
        ])
        | inr packet ↦ inr (some_named f.texts.channels r.gave s.sources.channels r.as_many r.channels packet)
      ]
    where
      some_named : (texts : List Text) (gave : List GivenSoFar) (channels : List KeptChannel) → length gave ≡ length texts
          → AllZip (λ c kept. HoldsChannel channel_given f.first.table s.rounds c.0 c.1 kept) (zip texts gave) channels
          → has_place (flat_map (head_places f.first.table) (flat_map (heads_given s.rounds) gave)) p ≡ true
          → SomeChannelNames channel_given f.first.table s.rounds texts p
      some_named texts [] channels same holds t = absurd cc
      some_named [] (g ∷ gave) channels same holds t = absurd (omega (arith, same))
      some_named (text ∷ texts) (g ∷ gave) [] same holds t = absurd holds
      some_named (text ∷ texts) (g ∷ gave) (c ∷ channels) same holds t =
          let split : has_place (flat_map (head_places f.first.table) (heads_given s.rounds g) ++ flat_map
          (head_places f.first.table) (flat_map (heads_given s.rounds) gave)) p ≡ true =
          ap (λ (l : List Place). has_place l p) (sym
          (flat_map-append (head_places f.first.table) (heads_given s.rounds g) (flat_map (heads_given s.rounds) gave))) ∙ t in
          elim (in_either (flat_map (head_places f.first.table) (heads_given s.rounds g))
          (flat_map (head_places f.first.table) (flat_map (heads_given s.rounds) gave)) p split) [
            | inl here ↦ (text, contains_here text texts, channel_named channel_given f.first.table s.rounds text g c p holds.0 here)
            | inr later ↦
                let rest = some_named texts gave channels (omega (arith, same)) holds.1 later in
                (rest.0, contains_later text texts rest.0 rest.1, rest.2)
          ]

  pub has_rounds_onto : HasRoundsOnto given f.uuid f.first f.texts r.readings memory s.rounds
  has_rounds_onto = elim r.is_own [
    | inl none ↦
        let same = r.unknown none in
        record {
          same_table = ap (λ (m : Image). m.table) same.0;
          elsewhere = λ p is_place unnamed. holds_first f.first memory s.rounds r.readings p is_place same.0 same.1;
        }
    | inr own ↦
        let holds = r.own own in
        stays_elsewhere (has_place (named_places f.first.table s.rounds
        (record { records = records_come f.first.table.page_size s.rounds r.readings s.sources.main; channels = r.gave })))
        (IsNamed given f.uuid f.first.table s.rounds f.texts)
        (rounds_onto f.first s.rounds r.readings) memory holds.written holds.has_memory all_named holds.are_named
  ]

-- ---- the verdict of the sources

-- with a verdict of the sources the load represents them
same_running : (load : LoadSettings) (uuid : List
    ℕ) (first : Image) (texts : Texts) (memory : Image) (s : InPlaceLoad) (v : Verdict) → IsRunning load uuid first texts memory s
    → IsRunning load uuid first texts memory (record s { verdict = v })
same_running load uuid first texts memory s v r = record {
  readings = r.readings;
  are_readings = r.are_readings;
  is_own = r.is_own;
  have_passed = r.have_passed;
  main = r.main;
  gave = r.gave;
  as_many = r.as_many;
  has_channel = r.has_channel;
  channels = r.channels;
  has_base = r.has_base;
  has_named = r.has_named;
  own = r.own;
  writes = r.writes;
  unknown = r.unknown;
  is_unwritten = r.is_unwritten;
  awaited = r.awaited;
}

-- a load that runs, under the verdict at a round that doesn't pass
pub stands_at : (f : Loading) (memory : Image) (s : InPlaceLoad) (v : Verdict) (loads : Loads f memory s)
    → IsFalse (passes s.rounds loads.is_running.readings) → v ≡ verdict_at s.rounds loads.is_running.readings
    → Stands f memory (record s { verdict = v })
stands_at f memory s v loads stops is =
    let given : LoadSettings = for_table f.first.table f.given in
    let r : IsRunning given f.uuid f.first f.texts memory s = loads.is_running in
    record {
      is_table = loads.is_table;
      is_image = loads.is_image;
      same_table = loads.same_table;
      is_answer = record {
        readings = r.readings;
        are_readings = r.are_readings;
        own = λ own. record {
          has_rounds = record { before = r.have_passed; here = stops };
          has_verdict = is;
          has_memory = has_rounds_onto f memory s loads;
        };
        unknown = λ none. (r.unknown none).0;
        other = λ other. absurd (elim r.is_own [
          | inl none ↦ let clash : None ≡ Some other.0 = sym none ∙ other.1 in cc
          | inr own ↦ other.2 (let both : Some other.0 ≡ Some f.first.table = sym other.1 ∙ own in cc)
        ]);
      };
      have_taken = running_taken given f.uuid f.first f.texts memory s r;
      has_named = record { readings = r.readings; are_readings = r.are_readings; has_places = λ _. r.has_named };
      runs = λ _. same_running given f.uuid f.first f.texts memory s v r;
    }

-- a running load whose sources have a verdict, by its readings, represents the streams with it
pub stands_told : (f : Loading) (memory : Image) (s : InPlaceLoad) (v : Verdict) (loads : Loads f memory s)
    → Some v ≡ first_some (told_at s.rounds loads.is_running.readings)
    → Stands f memory (record s { verdict = v })
stands_told f memory s v loads e =
    let told = told_here s.rounds loads.is_running.readings v e in stands_at f memory s v loads told.0 told.1

-- a running load whose sources have a verdict, by any readings, represents the streams with it
pub verdict_stands : (f : Loading) (memory : Image) (s : InPlaceLoad) (v : Verdict) → Loads f memory s
    → TellsVerdict (Some v) f s.rounds → Stands f memory (record s { verdict = v })
verdict_stands f memory s v loads tells = stands_told f memory s v loads (tells loads.is_running.readings loads.is_running.are_readings)

-- a round at which the sources have no verdict is due
pub none_is_due : (f : Loading) (k : ℕ) → TellsVerdict None f k → IsDue f k
none_is_due f k tells = λ readings are. sym (tells readings are)

-- the verdict on one reading of the streams is the verdict on each
pub tells_verdict : (f : Loading) (memory : Image) (s : InPlaceLoad) (told : Option Verdict) (loads : Loads f memory s)
    → told ≡ first_some (told_at s.rounds loads.is_running.readings) → TellsVerdict told f s.rounds
tells_verdict f memory s told loads e = λ readings are.
    let same : loads.is_running.readings ≡ readings =
    same_readings (for_table f.first.table f.given) f.uuid f.texts loads.is_running.readings readings loads.is_table.has_page_size
    loads.is_running.are_readings are in
    e ∙ ap (λ (x : Readings). first_some (told_at s.rounds x)) same

-- if an allocation is refused
pub lacks_memory : (f : Loading) (memory : Image) (s : InPlaceLoad) → Loads f memory s
    → LacksMemory f.given f.uuid f.first f.texts memory (record s { verdict = failed s.rounds origin.Round fault.NoMemory })
lacks_memory f memory s loads =
    let r = loads.is_running in
    record {
      is_table = loads.is_table;
      is_image = loads.is_image;
      same_table = loads.same_table;
      is_without = record {
        readings = r.readings;
        are_readings = r.are_readings;
        have_passed = r.have_passed;
        has_verdict = refl;
        own = λ own. has_rounds_onto f memory s loads;
        unknown = λ none. (r.unknown none).0;
        other = λ other. absurd (elim r.is_own [
          | inl none ↦ let clash : None ≡ Some other.0 = sym none ∙ other.1 in cc
          | inr own ↦ other.2 (let both : Some other.0 ≡ Some f.first.table = sym other.1 ∙ own in cc)
        ]);
      };
    }

-- which rests on the table and the rounds alone
pub lacks_same : (f : Loading) (memory : Image) (s now : InPlaceLoad) → s.table ≡ now.table → s.rounds ≡ now.rounds → Lacks f memory s → Lacks f memory now
lacks_same f memory s now table rounds lacks = record {
  is_table = lacks.is_table;
  is_image = lacks.is_image;
  same_table = lacks.same_table ∙ table;
  is_without = subst (λ (n : ℕ). IsInPlaceWithoutMemory f.given f.uuid f.first f.texts memory n (failed n origin.Round fault.NoMemory)) rounds lacks.is_without;
}
