-- A load that takes the bytes so far: what each call leaves, and its answer once nothing is left to
-- take.
use Rattle.std.proofs.Common.{ℕ, zero, suc, ◌≡◌, ◌≢◌, ◌⊎◌, ◌+◌, ◌<◌, Bool, true, false, not, ◌||◌, List, [], ◌∷◌, ◌++◌, length, map, take, drop, get_or, refl}
use Rattle.std.proofs.Common.{sym, ap, subst, ◌∙◌, inl, inr, Option, Some, None, arith}
use Rattle.std.specs.Prelude.{IsFalse}
use Rattle.std.specs.List.{AllZip, list_any, range_with_len}
use Rattle.std.specs.Option.{option_map}
use Rattle.std.proofs.lemmas.Bool.{cases_Bool}
use Rattle.std.proofs.lemmas.List.{length-map, take_all}
use Rattle.mig_mem.specs.PageSize.{IsPageSize}
use Rattle.mig_mem.specs.RamTable.{RamTable}
use Rattle.mig_mem.specs.Image.{Image, Page, zero_image}
use Rattle.mig_mem.specs.Round.{after}
use Rattle.mig_mem.specs.PlaceSet.{PlaceSet}
use Rattle.mig_mem.proofs.Rounds.{after-nil, onto-zeros}
use Rattle.mig_stream.specs.Reading.{Settings as StreamSettings, StreamReading}
use Rattle.mig_stream.specs.Law.{StaysRead}
use Rattle.mig_stream.specs.Reader.{HasTable}
use Rattle.mig_stream.proofs.Longer.{longer_law}
use Rattle.mig_stream.proofs.Exists.{one_reading_law}
use Rattle.mig_packet.specs.Reading.{Settings, ChannelReading, IsReading}
use Rattle.mig_packet.proofs.Exists.{one_reading_law as channel_law}
use Rattle.mig_staged.specs.Staged.{Staging, staged}
use Rattle.mig_load_types.specs.Settings.{main_of, channel_of, for_table}
use Rattle.mig_load_types.specs.declared.settings.LoadSettings.{LoadSettings}
use Rattle.mig_single_load.specs.InPlace.{IsOfOwnTable}
use Rattle.mig_sources.specs.declared.source.Source.{Source}
use Rattle.mig_sources.specs.declared.source.Source.TheVariants as source
use Rattle.mig_sources.specs.declared.counts.Count.{Count}
use Rattle.mig_sources.specs.Sources.{Counts, HasSource, count_in, counts_in, count_of, feed_step, end_step}
use Rattle.mig_sources.proofs.First.{nothing_read, main_nothing}
use Rattle.mig_sources.proofs.Steps.{ended_goes_on}
use Rattle.mig_answer.specs.declared.status.Status.{Status}
use Rattle.mig_answer.specs.declared.status.Status.TheVariants.{Whole, Clean, Bad, Pending}
use Rattle.mig_answer.specs.declared.verdict.Verdict.{Verdict}
use Rattle.mig_answer.specs.declared.verdict.Verdict.TheVariants.{Running, Done, Failed}
use Rattle.mig_answer.specs.Status.{main_status, channel_status, stream_end, is_pending}
use Rattle.mig_answer.specs.Texts.{Text, Texts, Readings, IsMainReading, AreReadings, no_text, no_texts, over as text_over}
use Rattle.mig_assemble.specs.NamedPlaces.{named_by}
use Rattle.mig_answer.specs.Rounds.{pages_at, memory_at, named_at}
use Rattle.mig_answer.specs.MultiLoad.{Answer, IsAnswer, IsFirstStop, passes, verdict_at, channels_at}
use Rattle.mig_answer.specs.Growing.{GoOn}
use Rattle.mig_answer.proofs.NamedRounds.{counted_missing}
use Rattle.mig_answer.proofs.OneAnswer.{some_readings, same_readings, same_main}
use Rattle.mig_answer.proofs.Growing.{ReadingsStay, readings_stay, named_still, answers_law, at_round}
use Rattle.mig_in_place.specs.Answer.{rounds_onto, IsOwnAnswer}
use Rattle.mig_in_place.specs.Session.{InPlaceLoad, text_of, status_of, StandsFor, StepsOn}
use Rattle.mig_in_place.specs.Sources.{counts_of}
use Rattle.mig_in_place.specs.WholeRounds.{HasRoundsAlone}
use Rattle.mig_in_place.proofs.Names.{stream_over}
use Rattle.mig_in_place.proofs.Waiting.{waits_here}
use Rattle.mig_in_place.proofs.WholeRounds.{alone_goes, taken_counts}
use Rattle.mig_session.specs.Ahead.{Wait}
use Rattle.mig_session.specs.Sources.{Waits, waiting_of, with_waiting}
use Rattle.mig_session.specs.Loading.{RoundLoad, first_of, Took, TakesOn, KeepsAlone, Feeding, fed, over, HasRoom, Counted, IsPart, Takes, HasAlone, IsDone}
use Rattle.mig_session.specs.Loading.{IsSettled, Settles}
use Rattle.mig_session.specs.Advancing.{IsTold}
use Rattle.mig_session.proofs.Ahead.{answers_ahead}
use Rattle.mig_session.proofs.MainScanning.{same_found, no_rounds}
use Rattle.mig_in_place.specs.Turns.{number_of}
use Rattle.mig_in_place.proofs.Turning.{text_same, text_other, texts_long}
use Rattle.mig_session.proofs.Parts.{part_open, same_or_not, number_few, there_too, there_before, there_after, count_text, part_few, part_all, parts_pushed}
use Rattle.mig_session.proofs.Parts.{parts_taken, parts_fed, parts_ended, parts_over, parts_go}

-- ---- the load's settings

-- the settings of a load into memory of the guest's page size are the session's
pub own_given : (given : LoadSettings) (table : RamTable) → table.page_size ≡ given.page_size → for_table table given ≡ given
own_given given table same = ap (λ (n : ℕ). record given { page_size = n }) same

-- the counts of the load's readers are those of the streams that it took
pub took_counts : (given : LoadSettings) (uuid : List ℕ) (taken : Texts) (l : RoundLoad) → Took given uuid taken l → counts_of l.load.sources ≡ counts_in taken
took_counts given uuid taken l took = taken_counts (for_table l.load.table given) uuid taken l.load.sources took.stands.have_taken

-- ---- the table

-- a stream's table is that of any longer one
pub table_more : (given : StreamSettings) (text more : List ℕ) (table : RamTable) → IsPageSize given.page_size → HasTable given text (Some table)
    → HasTable given (text ++ more) (Some table)
table_more given text more table size has =
    let next = one_reading_law given (text ++ more) size in
    let stays = longer_law given text more has.0 next.0 size has.1 next.1 in
    (next.0, next.1, sym (stays.same_table table (sym has.2)))

table_of_source : (f : Feeding) (from : Source) (piece : List ℕ) (table : RamTable) → IsPageSize f.given.page_size
    → HasTable (main_of f.given) f.texts.main.bytes (Some table) → HasTable (main_of f.given) (feed_step from piece f.texts).main.bytes (Some table)
table_of_source f source.Main piece table size has = table_more (main_of f.given) f.texts.main.bytes piece table size has
table_of_source f (source.Channel j) piece table size has = has

table_over : (f : Feeding) (from : Source) (table : RamTable) → HasTable (main_of f.given) f.texts.main.bytes (Some table)
    → HasTable (main_of f.given) (end_step from f.texts).main.bytes (Some table)
table_over f source.Main table has = has
table_over f (source.Channel j) table has = has

-- the table is the reading's
pub table_read : (given : LoadSettings) (text : Text) (table : Option RamTable) (reading : StreamReading) → IsPageSize given.page_size
    → HasTable (main_of given) text.bytes table → IsMainReading given text reading → reading.table ≡ table
table_read given text table reading size has is =
    ap (λ (r : StreamReading). r.table) (same_found given text has.0 reading size has.1 is) ∙ sym has.2

-- ---- the load begins, and ends a source

-- no round passes in streams without bytes
none_passed : (given : LoadSettings) (uuid : List ℕ) (n k : ℕ) (readings : Readings) → IsPageSize given.page_size → AreReadings given uuid (no_texts n) readings
    → IsFirstStop readings k → k ≡ 0
none_passed given uuid n zero readings size are stop = refl
none_passed given uuid n (suc k) readings size are stop =
    let is : readings.main ≡ nothing_read = main_nothing given readings.main size are.has_main in
    let no : passes 0 readings ≡ false = ap (λ (m : StreamReading). passes 0 (record { main = m; channels = readings.channels })) is in
    absurd (let yes : passes 0 readings ≡ true = stop.before 0 (omega arith) in let bad : true ≡ false = sym yes ∙ no in cc)

-- a load that was made took nothing
pub took_first : (given : LoadSettings) (uuid : List ℕ) (n : ℕ) (table : RamTable) (l : RoundLoad) → l.load.table ≡ table → table.page_size ≡ given.page_size
    → l.memory.kept ≡ zero_image table → staged l.memory ≡ l.memory.kept
    → StandsFor given uuid (zero_image table) (no_texts n) (zero_image table) l.load → Took given uuid (no_texts n) l
took_first given uuid n table l same size kept image stands =
    let own : for_table table given ≡ given = own_given given table size in
    let answer = stands.is_answer in
    let page : IsPageSize given.page_size = subst IsPageSize size stands.is_table.has_page_size in
    let are : AreReadings given uuid (no_texts n) answer.readings = subst (λ (g : LoadSettings). AreReadings g uuid
    (no_texts n) answer.readings) own answer.are_readings in
    let is : answer.readings.main ≡ nothing_read = main_nothing given answer.readings.main page are.has_main in
    let stop : IsFirstStop answer.readings l.load.rounds = (answer.own (inl (ap (λ (m : StreamReading). m.table) is))).has_rounds in
    let none : l.load.rounds ≡ 0 = none_passed given uuid n l.load.rounds answer.readings page are stop in
    let alone : HasRoundsAlone (for_table table given) uuid (zero_image table) (no_texts n) l.load.rounds l.memory.kept = record {
      readings = answer.readings;
      are_readings = answer.are_readings;
      have_passed = λ j below. absurd (omega (arith, below, none));
      has_rounds = kept ∙ sym (ap (λ (k : ℕ). rounds_onto (zero_image table) k answer.readings) none ∙ nothing_onto table answer.readings);
    } in
    record {
      has_page_size = ap (λ (t : RamTable). t.page_size) same ∙ size;
      stands = subst (λ (m : Image). StandsFor given uuid (first_of l) (no_texts n) m l.load) (sym (image ∙ kept))
          (subst (λ (t : RamTable). StandsFor given uuid (zero_image t) (no_texts n) (zero_image table) l.load) (sym same) stands);
      alone = subst (λ (t : RamTable). HasRoundsAlone (for_table t given) uuid (zero_image t) (no_texts n) l.load.rounds l.memory.kept) (sym same) alone;
    }
  where
    nothing_onto : (t : RamTable) (readings : Readings) → rounds_onto (zero_image t) 0 readings ≡ zero_image t
    nothing_onto t readings = sym (onto-zeros t []) ∙ after-nil t

-- a source's end is taken
pub end_took : (from : Source) (old new : RoundLoad) → StepsOn (end_step from) (staged old.memory) old.load (staged new.memory) new.load
    → new.load ≡ record old.load { sources = new.load.sources; verdict = new.load.verdict } → new.memory ≡ old.memory → TakesOn (end_step from) old new
end_took from old new steps others memory given uuid taken took =
    let table : new.load.table ≡ old.load.table = ap (λ (l : InPlaceLoad). l.table) others in
    let rounds : new.load.rounds ≡ old.load.rounds = ap (λ (l : InPlaceLoad). l.rounds) others in
    let kept : new.memory.kept ≡ old.memory.kept = ap (λ (m : Staging). m.kept) memory in
    let given_own : LoadSettings = for_table old.load.table given in
    let alone : HasRoundsAlone given_own uuid (first_of old) (end_step from taken) old.load.rounds old.memory.kept =
    alone_goes given_own uuid (first_of old) taken (end_step from taken) old.load.rounds old.memory.kept took.stands.is_table.has_page_size
    (ended_goes_on from taken) took.alone in
    record {
      has_page_size = ap (λ (t : RamTable). t.page_size) table ∙ took.has_page_size;
      stands = subst (λ (t : RamTable). StandsFor given uuid (zero_image t) (end_step from taken) (staged new.memory) new.load) (sym table)
          (steps given uuid (first_of old) taken took.stands);
      alone = subst (λ (t : RamTable). HasRoundsAlone (for_table t given) uuid (zero_image t) (end_step from taken) new.load.rounds new.memory.kept) (sym table)
          (subst (λ (r : ℕ). HasRoundsAlone given_own uuid (first_of old) (end_step from taken) r new.memory.kept) (sym rounds)
          (subst (λ (m : Image). HasRoundsAlone given_own uuid (first_of old) (end_step from taken) old.load.rounds m) (sym kept) alone));
    }

-- ---- bytes are taken

-- a piece of a source waits
pub takes_pushed : (f : Feeding) (w : Waits) (l : RoundLoad) (from : Source) (piece : List ℕ) → IsPageSize f.given.page_size
    → HasRoom f.texts from (length piece)
    → Takes f w l → Takes (fed from piece f) (with_waiting from (waiting_of w from ++ piece) w) l
takes_pushed f w l from piece size room t = record {
  taken = t.taken;
  took = t.took;
  are_parts = parts_pushed from piece w t.taken f.texts room.there room.is_open t.are_parts;
  has_table = table_of_source f from piece l.load.table size t.has_table;
}

-- of a piece the load takes the first bytes
pub takes_fed : (f : Feeding) (w : Waits) (l new : RoundLoad) (from : Source) (piece : List ℕ) (n : ℕ) → IsPageSize f.given.page_size
    → HasRoom f.texts from (length piece)
    → waiting_of w from ≡ [] → TakesOn (feed_step from (take n piece)) l new → new.load.table ≡ l.load.table
    → Takes f w l → Takes (fed from piece f) (with_waiting from (waiting_of w from ++ drop n piece) w) new
takes_fed f w l new from piece n size room none on table t = record {
  taken = feed_step from (take n piece) t.taken;
  took = on f.given f.uuid t.taken t.took;
  are_parts = parts_fed from piece n w t.taken f.texts room.there room.is_open none t.are_parts;
  has_table = subst (λ (x : RamTable). HasTable (main_of f.given) (feed_step from piece f.texts).main.bytes (Some x)) (sym table)
      (table_of_source f from piece l.load.table size t.has_table);
}

-- of the bytes that wait it takes the first
pub takes_waiting : (f : Feeding) (w : Waits) (l new : RoundLoad) (from : Source) (n : ℕ) → HasSource (counts_in f.texts) from
    → TakesOn (feed_step from (take n (waiting_of w from))) l new → new.load.table ≡ l.load.table
    → (t : Takes f w l) → IsFalse (text_of t.taken from).ended → Takes f (with_waiting from (drop n (waiting_of w from)) w) new
takes_waiting f w l new from n there on table t open_ = record {
  taken = feed_step from (take n (waiting_of w from)) t.taken;
  took = on f.given f.uuid t.taken t.took;
  are_parts = parts_taken from n w t.taken f.texts there open_ t.are_parts;
  has_table = subst (λ (x : RamTable). HasTable (main_of f.given) f.texts.main.bytes (Some x)) (sym table) t.has_table;
}

-- it takes a source's end
pub takes_ended : (f : Feeding) (w : Waits) (l new : RoundLoad) (from : Source) → HasSource (counts_in f.texts) from → waiting_of w from ≡ []
    → (text_of f.texts from).ended ≡ true → TakesOn (end_step from) l new → new.load.table ≡ l.load.table → Takes f w l → Takes f w new
takes_ended f w l new from there none ended on table t = record {
  taken = end_step from t.taken;
  took = on f.given f.uuid t.taken t.took;
  are_parts = parts_ended from w t.taken f.texts there none ended t.are_parts;
  has_table = subst (λ (x : RamTable). HasTable (main_of f.given) f.texts.main.bytes (Some x)) (sym table) t.has_table;
}

-- a source of a load that takes the streams exists in it, too
pub takes_there : (f : Feeding) (w : Waits) (l : RoundLoad) (from : Source) → Takes f w l → HasSource (counts_in f.texts) from
    → HasSource (counts_of l.load.sources) from
takes_there f w l from t there =
    subst (λ (c : Counts). HasSource c from) (sym (took_counts f.given f.uuid t.taken l t.took)) (there_too f.texts t.taken from
    (sym t.are_parts.as_many) there)

-- its count in the load is that of the bytes taken
pub takes_count : (f : Feeding) (w : Waits) (l : RoundLoad) (from : Source) → (t : Takes f w l) → HasSource (counts_in f.texts) from
    → ((count_of (counts_of l.load.sources) from).ended ≡ (text_of t.taken from).ended)
    × ((count_of (counts_of l.load.sources) from).fed ≡ length (text_of t.taken from).bytes)
takes_count f w l from t there =
    let same = took_counts f.given f.uuid t.taken l t.took in
    let here = count_text t.taken from (there_too f.texts t.taken from (sym t.are_parts.as_many) there) in (
      ap (λ (c : Counts). (count_of c from).ended) same ∙ ap (λ (c : Count). c.ended) here,
      ap (λ (c : Counts). (count_of c from).fed) same ∙ ap (λ (c : Count). c.fed) here,
    )

-- a source that hasn't ended isn't ended in the load
pub takes_open : (f : Feeding) (w : Waits) (l : RoundLoad) (from : Source) → (t : Takes f w l) → HasSource (counts_in f.texts) from
    → IsFalse (text_of f.texts from).ended → IsFalse (count_of (counts_of l.load.sources) from).ended
takes_open f w l from t there open_ =
    (takes_count f w l from t there).0 ∙ part_open (waiting_of w from) (text_of t.taken from) (text_of f.texts from) open_ (t.are_parts.parts from there)

-- it took no more bytes than there are, with those that wait
pub takes_few : (f : Feeding) (w : Waits) (l : RoundLoad) (from : Source) → (t : Takes f w l) → HasSource (counts_in f.texts) from
    → (count_of (counts_of l.load.sources) from).fed + length (waiting_of w from) ≡ length (text_of f.texts from).bytes
takes_few f w l from t there =
    omega (arith, (takes_count f w l from t there).1, part_few (waiting_of w from) (text_of t.taken from) (text_of f.texts from) (t.are_parts.parts from there))

-- if a source isn't ended in the load, its end wasn't taken
pub taken_open : (f : Feeding) (w : Waits) (l : RoundLoad) (from : Source) → (t : Takes f w l) → HasSource (counts_in f.texts) from
    → (count_of (counts_of l.load.sources) from).ended ≡ false → IsFalse (text_of t.taken from).ended
taken_open f w l from t there open_ = sym (takes_count f w l from t there).0 ∙ open_

-- the page size of a load is one
pub takes_size : (f : Feeding) (w : Waits) (l : RoundLoad) → Takes f w l → IsPageSize f.given.page_size
takes_size f w l t = subst IsPageSize t.took.has_page_size t.took.stands.is_table.has_page_size

-- ---- the rounds in its memory

-- rounds that a load has are those of all bytes
alone_of : (f : Feeding) (taken : Texts) (l : RoundLoad) → IsPageSize f.given.page_size → l.load.table.page_size ≡ f.given.page_size → GoOn taken f.texts
    → HasRoundsAlone (for_table l.load.table f.given) f.uuid (first_of l) taken l.load.rounds l.memory.kept
    → HasRoundsAlone f.given f.uuid (first_of l) f.texts l.load.rounds l.memory.kept
alone_of f taken l size same goes alone =
    alone_goes f.given f.uuid (first_of l) taken f.texts l.load.rounds l.memory.kept size goes
    (subst (λ (g : LoadSettings). HasRoundsAlone g f.uuid (first_of l) taken l.load.rounds l.memory.kept) (own_given f.given l.load.table same) alone)

pub takes_alone : (f : Feeding) (w : Waits) (l : RoundLoad) → IsPageSize f.given.page_size → Takes f w l → HasAlone f l
takes_alone f w l size t = record {
  has_page_size = t.took.has_page_size;
  alone = alone_of f t.taken l size t.took.has_page_size (parts_go w t.taken f.texts t.are_parts) t.took.alone;
  has_table = t.has_table;
}

-- if an allocation was refused in bytes of a source, they are those of all bytes, too
pub keeps_alone : (f : Feeding) (w : Waits) (l new : RoundLoad) (step : Texts → Texts) → IsPageSize f.given.page_size → (t : Takes f w l)
    → KeepsAlone step l new → new.load.table ≡ l.load.table → GoOn (step t.taken) f.texts → HasAlone f new
keeps_alone f w l new step size t keeps table goes =
    let same : new.load.table.page_size ≡ f.given.page_size = ap (λ (x : RamTable). x.page_size) table ∙ t.took.has_page_size in
    record {
      has_page_size = same;
      alone = alone_of f (step t.taken) new size same goes (keeps f.given f.uuid t.taken t.took);
      has_table = subst (λ (x : RamTable). HasTable (main_of f.given) f.texts.main.bytes (Some x)) (sym table) t.has_table;
    }

-- also in a piece
pub keeps_fed : (f : Feeding) (w : Waits) (l new : RoundLoad) (from : Source) (piece : List ℕ) → HasRoom f.texts from (length piece) → (t : Takes f w l)
    → KeepsAlone (feed_step from piece) l new → new.load.table ≡ l.load.table → waiting_of w from ≡ [] → HasAlone (fed from piece f) new
unfolding takes_pushed
keeps_fed f w l new from piece room t keeps table none =
    let size : IsPageSize f.given.page_size = takes_size f w l t in
    let all : Takes (fed from piece f) (with_waiting from (waiting_of w from ++ piece) w) l = takes_pushed f w l from piece size room t in
    let taken = parts_fed from piece (length piece) w t.taken f.texts room.there room.is_open none t.are_parts in
    let whole : take (length piece) piece ≡ piece = take_all (length piece) piece (omega arith) in
    keeps_alone (fed from piece f) (with_waiting from (waiting_of w from ++ piece) w) l new (feed_step from piece) size all keeps table
    (subst (λ (l : List ℕ). GoOn (feed_step from l t.taken) (feed_step from piece f.texts)) whole
    (parts_go (with_waiting from (waiting_of w from ++ drop (length piece) piece) w) (feed_step from (take (length piece) piece) t.taken)
    (feed_step from piece f.texts) taken))

-- and in bytes that wait
pub keeps_waiting : (f : Feeding) (w : Waits) (l new : RoundLoad) (from : Source) → HasSource (counts_in f.texts) from → (t : Takes f w l)
    → KeepsAlone (feed_step from (waiting_of w from)) l new → new.load.table ≡ l.load.table → IsFalse (text_of t.taken from).ended → HasAlone f new
keeps_waiting f w l new from there t keeps table open_ =
    let n : ℕ = length (waiting_of w from) in
    let whole : take n (waiting_of w from) ≡ waiting_of w from = take_all n (waiting_of w from) (omega arith) in
    keeps_alone f w l new (feed_step from (waiting_of w from)) (takes_size f w l t) t keeps table
    (subst (λ (l : List ℕ). GoOn (feed_step from l t.taken) f.texts) whole
    (parts_go (with_waiting from (drop n (waiting_of w from)) w) (feed_step from (take n (waiting_of w from)) t.taken) f.texts
    (parts_taken from n w t.taken f.texts there open_ t.are_parts)))

-- they stay if the streams go on
pub alone_further : (f g : Feeding) (l : RoundLoad) → IsPageSize f.given.page_size → g.given ≡ f.given → g.uuid ≡ f.uuid → GoOn f.texts g.texts
    → HasAlone f l → HasAlone g l
alone_further f g l size same one goes a =
    let h : Feeding = record { given = f.given; uuid = f.uuid; texts = g.texts } in
    let more : List ℕ = goes.main.more in
    let here : HasAlone h l = record {
      has_page_size = a.has_page_size;
      alone = alone_goes f.given f.uuid (first_of l) f.texts g.texts l.load.rounds l.memory.kept size goes a.alone;
      has_table = subst (λ (b : List ℕ). HasTable (main_of f.given) b (Some l.load.table)) (sym goes.main.has_bytes)
          (table_more (main_of f.given) f.texts.main.bytes more l.load.table size a.has_table);
    } in
    subst (λ (x : Feeding). HasAlone x l)
    (ap (λ (s : LoadSettings). record { given = s; uuid = f.uuid; texts = g.texts }) (sym same)
    ∙ ap (λ (u : List ℕ). record { given = g.given; uuid = u; texts = g.texts }) (sym one)) here

-- ---- once nothing is left to take

-- a running load has a verdict other than Running if its main stream isn't pending
pending_runs : (k : ℕ) (readings : Readings) → is_pending (main_status k readings.main) ≡ true → verdict_at k readings ≡ Running
pending_runs k readings pending =
    (waits_here k readings (ap (λ (b : Bool). b || list_any (λ s. is_pending s.status) (channels_at k readings)) pending)).1

-- the table of a main stream that has the round, or is over, is that of any longer one
table_settled : (given : LoadSettings) (k : ℕ) (text : Text) (before now : StreamReading) (table : RamTable) → IsPageSize given.page_size
    → IsMainReading given text before → StaysRead before now → is_pending (main_status k before) ≡ false → now.table ≡ Some table → before.table ≡ Some table
table_settled given k text before now table size is stays settled known = elim (at_round k (length before.rounds) (stream_end before.state) settled) [
  | inl lt ↦ go before.table refl lt
  | inr end ↦ ap (λ (r : StreamReading). r.table) (sym (stays.same_once_over (stream_over before.state end.1))) ∙ known
]
  where
    go : (o : Option RamTable) → before.table ≡ o → k < length before.rounds → before.table ≡ Some table
    go None e lt = absurd (let none : 0 ≡ length before.rounds = no_rounds given text before size is e in omega (arith, lt, none))
    go (Some t) e lt = e ∙ sym (stays.same_table t e) ∙ known

-- a verdict is Running or not
pub running_or_not : (v : Verdict) → (v ≡ Running) ⊎ (v ≢ Running)
running_or_not Running = inl refl
running_or_not Done = inr (λ e. absurd cc)
running_or_not (Failed f) = inr (λ e. absurd cc)

-- the first streams of a load and their readings
record Midst (f : Feeding) (w : Waits) (l : RoundLoad) (t : Takes f w l) : Type 0 where
  before : Readings
  are_before : AreReadings f.given f.uuid t.taken before
  now : Readings
  are_now : AreReadings f.given f.uuid f.texts now
  stay : ReadingsStay before now
  table_now : now.main.table ≡ Some l.load.table
  own : IsOwnAnswer f.given f.uuid (first_of l) t.taken before (staged l.memory) l.load.rounds l.load.verdict

midst : (f : Feeding) (w : Waits) (l : RoundLoad) → IsPageSize f.given.page_size → (t : Takes f w l) → Midst f w l t
midst f w l size t =
    let given : LoadSettings = for_table l.load.table f.given in
    let same : given ≡ f.given = own_given f.given l.load.table t.took.has_page_size in
    let answer = t.took.stands.is_answer in
    let before : Readings = answer.readings in
    let are : AreReadings f.given f.uuid t.taken before = subst (λ (g : LoadSettings). AreReadings g f.uuid t.taken before) same answer.are_readings in
    let next = some_readings f.given f.uuid f.texts size in
    let stay : ReadingsStay before next.0 = readings_stay f.given f.uuid t.taken f.texts before next.0 size
    (parts_go w t.taken f.texts t.are_parts) are next.1 in
    let known : next.0.main.table ≡ Some l.load.table = table_read f.given f.texts.main (Some l.load.table) next.0.main size t.has_table next.1.has_main in
    record {
      before = before;
      are_before = are;
      now = next.0;
      are_now = next.1;
      stay = stay;
      table_now = known;
      own = subst (λ (g : LoadSettings). IsOwnAnswer g f.uuid (first_of l) t.taken before (staged l.memory) l.load.rounds l.load.verdict) same
          (answer.own (own_table before.main.table refl stay known));
    }
  where
    own_table : (o : Option RamTable) → t.took.stands.is_answer.readings.main.table ≡ o
        → ReadingsStay t.took.stands.is_answer.readings (some_readings f.given f.uuid f.texts size).0
        → (some_readings f.given f.uuid f.texts size).0.main.table ≡ Some l.load.table
        → IsOfOwnTable (first_of l) t.took.stands.is_answer.readings.main
    own_table None e stay known = inl e
    own_table (Some x) e stay known = inr (e ∙ sym (stay.main.same_table x e) ∙ known)

-- a load whose main stream waits for no byte knows the table
table_here : (f : Feeding) (w : Waits) (l : RoundLoad) → IsPageSize f.given.page_size → (t : Takes f w l) → (m : Midst f w l t)
    → IsSettled l.load.rounds f t.taken source.Main → m.before.main.table ≡ Some l.load.table
table_here f w l size t m settled = elim settled [
  | inl same ↦ ap (λ (r : StreamReading). r.table) (same_main f.given t.taken.main m.before.main m.now.main size m.are_before.has_main
      (subst (λ (x : Text). IsMainReading f.given x m.now.main) same m.are_now.has_main)) ∙ m.table_now
  | inr over ↦ table_settled f.given l.load.rounds t.taken.main m.before.main m.now.main l.load.table size m.are_before.has_main m.stay.main
      (over m.before m.are_before) m.table_now
]

-- so does one that has its verdict
table_there : (f : Feeding) (w : Waits) (l : RoundLoad) → IsPageSize f.given.page_size → (s : Settles f w l) → (m : Midst f w l s.takes)
    → m.before.main.table ≡ Some l.load.table
table_there f w l size s m = elim (running_or_not l.load.verdict) [
  | inl running ↦ table_here f w l size s.takes m (s.settled running source.Main tt)
  | inr other ↦ table_settled f.given l.load.rounds s.takes.taken.main m.before.main m.now.main l.load.table size m.are_before.has_main m.stay.main
      (elim (cases_Bool (is_pending (main_status l.load.rounds m.before.main))) [
        | inl pending ↦ absurd (other (m.own.has_verdict ∙ pending_runs l.load.rounds m.before pending))
        | inr e ↦ e
      ]) m.table_now
]

-- a memory of rounds onto zeros is that after these rounds
kept_memory : (table : RamTable) (k : ℕ) (readings : Readings) (kept : Image) → readings.main.table ≡ Some table
    → kept ≡ rounds_onto (zero_image table) k readings
    → Some kept ≡ memory_at k readings
kept_memory table k readings kept known is =
    let rounds : List (List Page) = map (λ i. pages_at table i readings) (range_with_len 0 k) in
    ap (λ (i : Image). Some i) (is ∙ sym (onto-zeros table rounds))
    ∙ sym (ap (option_map (λ (x : RamTable). after x (map (λ i. pages_at x i readings) (range_with_len 0 k)))) known)

-- a load's memory is that of its rounds of the bytes so far
pub alone_memory : (f : Feeding) (l : RoundLoad) → IsPageSize f.given.page_size → (has : HasAlone f l)
    → Some l.memory.kept ≡ memory_at l.load.rounds has.alone.readings
alone_memory f l size has =
    kept_memory l.load.table l.load.rounds has.alone.readings l.memory.kept
    (table_read f.given f.texts.main (Some l.load.table) has.alone.readings.main size has.has_table has.alone.are_readings.has_main) has.alone.has_rounds

-- and of the bytes taken
memory_here : (f : Feeding) (w : Waits) (l : RoundLoad) → IsPageSize f.given.page_size → (t : Takes f w l) → (m : Midst f w l t)
    → m.before.main.table ≡ Some l.load.table → Some l.memory.kept ≡ memory_at l.load.rounds m.before
memory_here f w l size t m known =
    let k : ℕ = l.load.rounds in
    let same : for_table l.load.table f.given ≡ f.given = own_given f.given l.load.table t.took.has_page_size in
    let alone : HasRoundsAlone f.given f.uuid (first_of l) t.taken k l.memory.kept =
    subst (λ (g : LoadSettings). HasRoundsAlone g f.uuid (first_of l) t.taken k l.memory.kept) same t.took.alone in
    let one : alone.readings ≡ m.before = same_readings f.given f.uuid t.taken alone.readings m.before size alone.are_readings m.are_before in
    kept_memory l.load.table k m.before l.memory.kept known (alone.has_rounds ∙ ap (λ (r : Readings). rounds_onto (first_of l) k r) one)

named_here : (f : Feeding) (w : Waits) (l : RoundLoad) → IsPageSize f.given.page_size → (t : Takes f w l) → (m : Midst f w l t)
    → m.before.main.table ≡ Some l.load.table → Some l.load.named ≡ named_at l.load.rounds m.before
named_here f w l size t m known =
    let table : RamTable = l.load.table in
    let k : ℕ = l.load.rounds in
    let same : for_table table f.given ≡ f.given = own_given f.given table t.took.has_page_size in
    let named = t.took.stands.has_named in
    let one : named.readings ≡ m.before = same_readings f.given f.uuid t.taken named.readings m.before size
    (subst (λ (g : LoadSettings). AreReadings g f.uuid t.taken named.readings) same named.are_readings) m.are_before in
    let places = named.has_places (inr (ap (λ (r : Readings). r.main.table) one ∙ known)) in
    ap (λ (s : PlaceSet). Some s) places
    ∙ ap (λ (r : Readings). Some (named_by table (map (λ i. pages_at table i r) (range_with_len 0 k)))) one
    ∙ sym (ap (option_map (λ (x : RamTable). named_by x (map (λ i. pages_at x i m.before) (range_with_len 0 k)))) known)

-- what waits of the channels is settled
wait_of : (k : ℕ) (olds news : List Text) (befores : List ChannelReading) → length olds ≡ length news
    → ((j : ℕ) → j < length news → (get_or news j no_text ≡ get_or olds j no_text) ⊎ (is_pending (get_or (map (channel_status k) befores) j Pending) ≡ false))
    → Wait k olds news befores
wait_of k [] news befores many at = tt
wait_of k (old ∷ olds) [] befores many at = tt
wait_of k (old ∷ olds) (new ∷ news) [] many at = tt
wait_of k (old ∷ olds) (new ∷ news) (before ∷ befores) many at =
    (at 0 (omega arith), wait_of k olds news befores (omega (arith, many)) (λ j below. at (suc j) (omega (arith, below))))

-- The load has the answer on all bytes.
pub settles_told : (f : Feeding) (w : Waits) (l : RoundLoad) → IsPageSize f.given.page_size → Settles f w l → IsTold f (Some l) l.load.verdict
settles_told f w l size s =
    let k : ℕ = l.load.rounds in
    let t : Takes f w l = s.takes in
    let m : Midst f w l t = midst f w l size t in
    let known : m.before.main.table ≡ Some l.load.table = table_there f w l size s m in
    let memory : Some l.memory.kept ≡ memory_at k m.before = memory_here f w l size t m known in
    let named : Some l.load.named ≡ named_at k m.before = named_here f w l size t m known in
    let answer : Answer = record { memory = Some l.memory.kept; rounds = k; verdict = l.load.verdict } in
    let goes : GoOn t.taken f.texts = parts_go w t.taken f.texts t.are_parts in
    let is : IsAnswer f.given f.uuid t.taken answer = record {
      readings = m.before;
      are_readings = m.are_before;
      has_rounds = m.own.has_rounds;
      has_memory = memory;
      has_verdict = m.own.has_verdict;
    } in
    let all : IsAnswer f.given f.uuid f.texts answer = elim (running_or_not l.load.verdict) [
      | inl running ↦ answers_ahead f.given f.uuid t.taken f.texts answer l.memory.kept size goes is running refl
          (elim (s.settled running source.Main tt) [
            | inl same ↦ inl same
            | inr over ↦ inr (over m.before m.are_before)
          ])
          (wait_of k t.taken.channels f.texts.channels m.before.channels t.are_parts.as_many
          (λ j below. elim (s.settled running (source.Channel j) (there_of j below)) [
            | inl same ↦ inl same
            | inr over ↦ inr (over m.before m.are_before)
          ]))
      | inr other ↦ answers_law f.given f.uuid t.taken f.texts answer size goes is other
    ] in
    record {
      readings = all.readings;
      are_readings = all.are_readings;
      told = record {
        is_first_stop = all.has_rounds;
        has_memory = all.has_memory;
        has_missing = counted_missing all.readings k l.load.named (sym (named_still m.before all.readings k l.load.named
            (readings_stay f.given f.uuid t.taken f.texts m.before all.readings size goes m.are_before all.are_readings) m.own.has_rounds.before (sym named)));
        has_verdict = all.has_verdict;
      };
    }
  where
    there_of : (j : ℕ) → j < length f.texts.channels → HasSource (counts_in f.texts) (source.Channel j)
    there_of j below = omega (arith, below, length-map f.texts.channels count_in)

-- ---- what isn't taken now is settled

pending_is : (s : Status) → is_pending s ≡ true → s ≡ Pending
pending_is Whole e = absurd cc
pending_is Clean e = absurd cc
pending_is (Bad f) e = absurd cc
pending_is Pending e = refl

not_pending : (s : Status) → (s ≡ Pending → ⊥) → is_pending s ≡ false
not_pending s never = elim (cases_Bool (is_pending s)) [
  | inl e ↦ absurd (never (pending_is s e))
  | inr e ↦ e
]

-- if no source takes bytes that wait, each is settled
pub done_settled : (f : Feeding) (w : Waits) (l : RoundLoad) → IsPageSize f.given.page_size → (t : Takes f w l)
    → ((from : Source) → HasSource (counts_in f.texts) from → IsDone l.load.rounds f t.taken from)
    → (from : Source) → HasSource (counts_in f.texts) from → IsSettled l.load.rounds f t.taken from
done_settled f w l size t done = settled
  where
    k : ℕ
    k = l.load.rounds

    m : Midst f w l t
    m = midst f w l size t

    main : IsSettled k f t.taken source.Main
    main = elim (done source.Main tt) [
      | inl same ↦ inl same
      | inr never ↦ inr (λ readings are. not_pending (main_status k readings.main) (λ e. never
          (record { readings = readings; are_readings = are; is_pending = e; is_free = λ held. held })))
    ]

    known : m.before.main.table ≡ Some l.load.table
    known = table_here f w l size t m main

    settled : (from : Source) → HasSource (counts_in f.texts) from → IsSettled k f t.taken from
    settled source.Main there = main
    settled (source.Channel j) there = elim (done (source.Channel j) there) [
      | inl same ↦ inl same
      | inr never ↦ inr (λ readings are. not_pending (status_of k readings (source.Channel j)) (λ e. never (record {
        readings = readings;
        are_readings = are;
        is_pending = e;
        is_free = λ held.
            let one : readings ≡ m.before = same_readings f.given f.uuid t.taken readings m.before size are m.are_before in
            let none : m.before.main.table ≡ None = ap (λ (r : Readings). r.main.table) (sym one) ∙ held.0 in
            let bad : Some l.load.table ≡ None = sym known ∙ none in absurd cc;
      })))
    ]

-- ---- a source ends

abbrev Are : Settings → List Text → List ChannelReading → Type 0
Are given texts readings = AllZip (λ (text : Text) (reading : ChannelReading). IsReading given text.bytes text.ended reading) texts readings

-- the status of a source depends on its own stream alone
status_same : (given : LoadSettings) (uuid : List ℕ) (k : ℕ) (a b : Texts) (x y : Readings) (from : Source) → IsPageSize given.page_size
    → length a.channels ≡ length b.channels → AreReadings given uuid a x → AreReadings given uuid b y → HasSource (counts_in a) from
    → text_of a from ≡ text_of b from → status_of k x from ≡ status_of k y from
status_same given uuid k a b x y source.Main size many is_x is_y there same =
    ap (main_status k) (same_main given a.main x.main y.main size is_x.has_main
    (subst (λ (t : Text). IsMainReading given t y.main) (sym same) is_y.has_main))
status_same given uuid k a b x y (source.Channel j) size many is_x is_y there same =
    channel_same (channel_of given uuid (length a.channels)) j a.channels b.channels x.channels y.channels size (omega
    (arith, there, length-map a.channels count_in)) many
    is_x.has_channels (subst (λ (n : ℕ). Are (channel_of given uuid n) b.channels y.channels) (sym many) is_y.has_channels) same
  where
    channel_same : (g : Settings) (j : ℕ) (a b : List Text) (x y : List ChannelReading) → IsPageSize g.page_size → j < length a → length a ≡ length b
        → Are g a x → Are g b y → get_or a j no_text ≡ get_or b j no_text
        → get_or (map (channel_status k) x) j Pending ≡ get_or (map (channel_status k) y) j Pending
    channel_same g j [] b x y size below many is_x is_y same = absurd (omega (arith, below))
    channel_same g j (s ∷ a) [] x y size below many is_x is_y same = absurd (omega (arith, many))
    channel_same g j (s ∷ a) (t ∷ b) [] y size below many is_x is_y same = absurd is_x
    channel_same g j (s ∷ a) (t ∷ b) (p ∷ x) [] size below many is_x is_y same = absurd is_y
    channel_same g zero (s ∷ a) (t ∷ b) (p ∷ x) (q ∷ y) size below many is_x is_y same =
        let law = channel_law g s.bytes s.ended size in
        let here : IsReading g s.bytes s.ended q = subst (λ (r : Text). IsReading g r.bytes r.ended q) (sym same) is_y.0 in
        ap (channel_status k) (law.2 p is_x.0 ∙ sym (law.2 q here))
    channel_same g (suc j) (s ∷ a) (t ∷ b) (p ∷ x) (q ∷ y) size below many is_x is_y same =
        channel_same g j a b x y size (omega (arith, below)) (omega (arith, many)) is_x.1 is_y.1 same

empty : (l : List ℕ) → length l ≡ 0 → l ≡ []
empty [] none = refl
empty (byte ∷ l) none = absurd (omega (arith, none))

-- a source of a running load ends, of which bytes wait
pub settles_behind : (f : Feeding) (w : Waits) (l : RoundLoad) (from : Source) → HasSource (counts_in f.texts) from → waiting_of w from ≢ []
    → l.load.verdict ≡ Running → Settles f w l → Settles (over from f) w l
settles_behind f w l from there some running s =
    let t : Takes f w l = s.takes in
    record {
      takes = record {
        taken = t.taken;
        took = t.took;
        are_parts = parts_over from w t.taken f.texts there t.are_parts;
        has_table = table_over f from l.load.table t.has_table;
      };
      settled = λ run other has. here other (there_before from other text_over f.texts has) (same_or_not from other);
    }
  where
    here : (other : Source) → HasSource (counts_in f.texts) other → (from ≡ other) ⊎ (number_of other ≢ number_of from)
        → IsSettled l.load.rounds (over from f) s.takes.taken other
    here other has (inl same) = elim (s.settled running other has) [
      | inl all ↦
          let part = subst (λ (x : Source). IsPart (waiting_of w x) (text_of s.takes.taken x) (text_of f.texts x)) (sym same)
          (s.takes.are_parts.parts other has) in
          let few = part_few (waiting_of w from) (text_of s.takes.taken from) (text_of f.texts from) part in
          let whole : text_of f.texts from ≡ text_of s.takes.taken from =
          subst (λ (x : Source). text_of f.texts x ≡ text_of s.takes.taken x) (sym same) all in
          absurd (some (empty (waiting_of w from) (omega (arith, few, ap (λ (x : Text). length x.bytes) whole))))
      | inr over ↦ inr over
    ]
    here other has (inr ne) = elim (s.settled running other has) [
      | inl all ↦ inl (text_other from other text_over f.texts ne ∙ all)
      | inr over ↦ inr over
    ]

-- or all of which was taken
pub settles_over : (f : Feeding) (w : Waits) (l new : RoundLoad) (from : Source) → IsPageSize f.given.page_size → HasSource (counts_in f.texts) from
    → waiting_of w from ≡ [] → l.load.verdict ≡ Running → TakesOn (end_step from) l new → new.load.table ≡ l.load.table → new.load.rounds ≡ l.load.rounds
    → Settles f w l → Settles (over from f) w new
unfolding takes_ended
settles_over f w l new from size there none running on table rounds s = record {
  takes = next;
  settled = λ run other has.
      subst (λ (k : ℕ). IsSettled k (over from f) (end_step from taken) other) (sym rounds)
      (here other (there_before from other text_over f.texts has) has (same_or_not from other));
}
  where
    taken : Texts
    taken = s.takes.taken

    few : number_of from < length f.texts.channels + 1
    few = number_few from f.texts there

    between : Takes (over from f) w l
    between = record {
      taken = taken;
      took = s.takes.took;
      are_parts = parts_over from w taken f.texts there s.takes.are_parts;
      has_table = table_over f from l.load.table s.takes.has_table;
    }

    ended : (text_of (end_step from f.texts) from).ended ≡ true
    ended = ap (λ (x : Text). x.ended) (text_same from text_over f.texts few)

    next : Takes (over from f) w new
    next = takes_ended (over from f) w l new from (there_after from from text_over f.texts there) none ended on table between

    here : (other : Source) → HasSource (counts_in f.texts) other → HasSource (counts_in (end_step from f.texts)) other
        → (from ≡ other) ⊎ (number_of other ≢ number_of from)
        → IsSettled l.load.rounds (over from f) (end_step from taken) other
    here other has now (inl same) =
        let last : (text_of (end_step from taken) from).ended ≡ true =
        ap (λ (x : Text). x.ended) (text_same from text_over taken (omega (arith, few, s.takes.are_parts.as_many))) in
        inl (subst (λ (x : Source). text_of (end_step from f.texts) x ≡ text_of (end_step from taken) x) same
        (part_all (waiting_of w from) (text_of (end_step from taken) from) (text_of (end_step from f.texts) from) none (last ∙ sym ended)
        (next.are_parts.parts from (there_after from from text_over f.texts there))))
    here other has now (inr ne) = elim (s.settled running other has) [
      | inl all ↦ inl (text_other from other text_over f.texts ne ∙ all ∙ sym (text_other from other text_over taken ne))
      | inr done ↦ inr (λ readings are.
          let was = some_readings f.given f.uuid taken size in
          ap is_pending (status_same f.given f.uuid l.load.rounds (end_step from taken) taken readings was.0 other size
          (texts_long from text_over taken) are was.1
          (there_too f.texts (end_step from taken) other (sym (texts_long from text_over taken ∙ s.takes.are_parts.as_many)) has)
          (text_other from other text_over taken ne)) ∙ done was.0 was.1)
    ]

-- the count of a source that is there is that of its stream
pub counted_at : (texts : Texts) (from : Source) (counts : Counts) (count : Count) → counts ≡ counts_in texts → HasSource (counts_in texts) from
    → count ≡ count_of counts from → Counted texts from count
counted_at texts from counts count same there is = record {
  there = there;
  is_count = is ∙ ap (λ (c : Counts). count_of c from) same ∙ count_text texts from there;
}

-- a channel that is counted is there
pub channel_there : (texts : Texts) (counts : Counts) (j : ℕ) → counts ≡ counts_in texts → j < length counts.channels
    → HasSource (counts_in texts) (source.Channel j)
channel_there texts counts j same below = subst (λ (c : Counts). j < length c.channels) same below

-- and one that is there is counted
pub channel_few : (texts : Texts) (counts : Counts) (j : ℕ) → counts ≡ counts_in texts → HasSource (counts_in texts) (source.Channel j)
    → j < length counts.channels
channel_few texts counts j same there = subst (λ (c : Counts). j < length c.channels) (sym same) there

-- what is so of the main stream and of each channel is so of each source
pub done_all : (f : Feeding) (k : ℕ) (taken : Texts) → IsDone k f taken source.Main
    → ((j : ℕ) → HasSource (counts_in f.texts) (source.Channel j) → IsDone k f taken (source.Channel j))
    → (from : Source) → HasSource (counts_in f.texts) from → IsDone k f taken from
done_all f k taken main channels source.Main there = main
done_all f k taken main channels (source.Channel j) there = channels j there

-- what isn't is false
pub not_true : (b : Bool) → not b ≡ true → b ≡ false
not_true true e = absurd cc
not_true false e = refl
