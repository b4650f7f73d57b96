-- A load in place that writes each page as it is read: its loops, and what it represents between
-- calls.
use Rattle.std.proofs.Common.{ℕ, suc, cond, ◌≡◌, ◌≢◌, ◌⊎◌, ◌+◌, ◌<◌, ◌^◌, false, arith, List, [], ◌∷◌, ◌++◌, length, map, Option, Some, None, All, refl, sym}
use Rattle.std.proofs.Common.{ap, ◌∙◌, subst, inl, inr, append_assoc, not}
use Rattle.std.specs.Prelude.{IfSome, Result, Ok, ⊤}
use Rattle.std.specs.Option.{option_map_or, option_or}
use Rattle.std.proofs.lemmas.Bool.{cases_Bool, cond-false}
use Rattle.std.proofs.lemmas.List.{append-nil, length-append, map-append}
use Rattle.mig_mem.specs.PageSize.{IsPageSize}
use Rattle.mig_mem.specs.RamTable.{RamTable, IsTable}
use Rattle.mig_mem.specs.declared.place.Place.{Place}
use Rattle.mig_mem.specs.Place.{place_eq, has_place, IsPlace}
use Rattle.mig_mem.specs.PlaceSet.{PlaceSet, places_where}
use Rattle.mig_mem.specs.Image.{Page, Image, IsImage, content_at}
use Rattle.mig_mem.specs.Round.{with_round, with_rounds, all_pages, last_at}
use Rattle.mig_mem.proofs.PlaceOrder.{place_eq-true}
use Rattle.mig_mem.proofs.Images.{content_at-image_of}
use Rattle.mig_mem.proofs.Rounds.{onto-nil, last_at-nil, last_at-cons}
use Rattle.mig_stream.specs.declared.item.Mode.TheVariants.{Single}
use Rattle.mig_stream.specs.declared.item.StreamState.{StreamState}
use Rattle.mig_stream.specs.declared.item.StreamState.TheVariants.{Reading, Closed, Bad}
use Rattle.mig_stream.specs.declared.record_reader.RecordEvent.{RecordEvent}
use Rattle.mig_stream.specs.declared.record_reader.RecordEvent.TheVariants.{Records, Section, End}
use Rattle.mig_stream.specs.PageRecord.{PageRecord, page_of}
use Rattle.mig_stream.specs.Progress.{StreamProgress, start, whole_table}
use Rattle.mig_stream.specs.Reading.{Settings, StreamReading, IsReading, Ends, Reads}
use Rattle.mig_stream.specs.Reader.{HasTable, IsFinal, IsValidUpTo}
use Rattle.mig_stream.specs.Round.{RoundOfRecords}
use Rattle.mig_stream.specs.Giving.{Giver, GivenSoFar, none_given, with_last, with_given, Gives, GivesOn, GiverTells, EndsSo, LeavesNone, HasNoneLeft}
use Rattle.mig_stream.specs.Giving.{HasReading, LeavesLess, all_read, Paused, giver_at, PausesAt}
use Rattle.mig_stream.specs.Law.{StaysRead}
use Rattle.mig_stream.specs.Written.{single}
use Rattle.mig_stream.proofs.Between.{closed_is_empty}
use Rattle.mig_stream.proofs.Exists.{one_reading_law}
use Rattle.mig_stream.proofs.Feeding.{reads_short}
use Rattle.mig_stream.proofs.Longer.{longer_law}
use Rattle.mig_stream.proofs.Valid.{closed_is_valid}
use Rattle.mig_stream.proofs.Giver.{none_before_table, few_sections, table_each, paused_table, same_page_size}
use Rattle.mig_stream.proofs.Later.{Ends-more}
use Rattle.mig_assemble.specs.Judging.{places_of}
use Rattle.mig_assemble.specs.NamedPlaces.{HasPlaces, with_places}
use Rattle.mig_assemble.specs.Target.{FitsTable, none_named, pages_of_round}
use Rattle.mig_assemble.proofs.Naming.{names_more, named_by-nil, missing_is}
use Rattle.mig_assemble.proofs.Putting.{put_after}
use Rattle.mig_load_types.specs.Settings.{for_table, ram_settings}
use Rattle.mig_load_types.specs.declared.settings.LoadSettings.{LoadSettings}
use Rattle.mig_single_load.specs.declared.in_place_state.LoadState.{LoadState}
use Rattle.mig_single_load.specs.declared.in_place_state.LoadState.TheVariants as load_state
use Rattle.mig_load_types.specs.declared.fault.LoadFault.{LoadFault}
use Rattle.mig_single_load.specs.SingleLoad.{verdict_of}
use Rattle.mig_single_load.specs.InPlace.{settings_of, IsOfOwnTable, IsOfOtherTable, HasOtherTable, pages_on, pages_of_all, HasRecordsOnto, HasNamedOnto}
use Rattle.mig_single_load.specs.InPlace.{HasMissingOnto, HasVerdictOnto}
use Rattle.mig_single_load.specs.LoadInPlace.{InPlaceKeepsOtherPlaces, InPlaceOkIsWhole, SentIsLoadedInPlace, given_pages, given_places, settings_for}
use Rattle.mig_single_load.specs.LoadInPlace.{IsOfTable, IsEnd, GaveNext, PutsNext, PutsNextSome, GaveAll, GivesAll, PutsAll, NamesAll, NamesAt, Names}
use Rattle.mig_single_load.specs.LoadInPlace.{PausesOnto, PausesSome, IsInState, StandsOnto, LoadInPlace, load_in_place, LoadsInPlace, HasSomeOnto, PutsSome}
use Rattle.mig_single_load.specs.LoadInPlace.{LacksMemory, closed_place, valid_place, HasClosedAtOnto, IsValidUpToOnto}
use Rattle.mig_single_load.proofs.Sections.{same_reading}
use Rattle.mig_single_load.proofs.Onto.{apart, sent_verdict, sent_sections}
use Rattle.mig_single_load.proofs.LoadedAtOnce.{given_more, given_last}

-- ---- what a call of a reader gives

pub record Step (gave : RecordEvent) (old new : Giver) : Type 0 where
  pub ok : GivesOn (with_given gave new.given.records) old new
  pub page_size : GiverTells old (λ given text so_far. new.given.page_size ≡ given.page_size)
  pub places : GiverTells old (λ given text so_far. (table : RamTable) → HasTable given text (Some table) → All (λ x. IsPlace table x.place) new.given.records)
  pub end : GiverTells old (EndsSo gave)
  pub none : LeavesNone gave new
  pub less : LeavesLess gave old new

-- a reader that gave `so_far` and takes a step gave last what this step gives
pub gave_on : (given : LoadSettings) (table : RamTable) (text : List ℕ) (so_far : GivenSoFar) (gave : RecordEvent) (old new : Giver)
    → Gives (settings_for table given) text so_far old → Step gave old new
    → GaveNext given table text so_far gave new
gave_on given table text so_far gave old new gives step =
    let single = settings_for table given in record {
      gives = step.ok single text so_far gives;
      is_size = step.page_size single text so_far gives;
      has_places = step.places single text so_far gives table;
      ends = step.end single text so_far gives;
      leaves_none = step.none;
    }

-- ---- up to the table

none_both : {X : Type 0} (xs ys : List X) → xs ++ ys ≡ [] → xs ≡ []
none_both {X} [] ys e = refl
none_both {X} (x ∷ xs) ys e = absurd cc

some_last : {X : Type 0} (xs : List X) (x : X) → xs ++ x ∷ [] ≡ [] → ⊥
some_last {X} [] x e = absurd cc
some_last {X} (y ∷ xs) x e = absurd cc

-- if all together is nothing, nothing was given last
given_none : (gave : RecordEvent) (records : List PageRecord) (so_far : GivenSoFar) → (with_given gave records so_far).sections ≡ []
    → (with_given gave records so_far).open_section ≡ []
    → with_given gave records so_far ≡ so_far
given_none Records records so_far no_sections none =
    ap (λ (x : List PageRecord). record so_far { open_section = x }) (none ∙ sym (none_both so_far.open_section records none))
given_none Section records so_far no_sections none = absurd (some_last so_far.sections (so_far.open_section ++ records) no_sections)
given_none (End found) records so_far no_sections none = refl

-- before the table nothing was
pub gave_before : (given : LoadSettings) (table : RamTable) (text : List ℕ) (so_far : GivenSoFar) (gave : RecordEvent) (r : Giver)
    → GaveNext given table text so_far gave r → whole_table r.progress ≡ None
    → Gives (settings_for table given) text so_far r
gave_before given table text so_far gave r next none =
    let then : GivenSoFar = with_given gave r.given.records so_far in
    let both = none_before_table (settings_for table given) text then r next.gives none in
    subst (λ (x : GivenSoFar). Gives (settings_for table given) text x r) (given_none gave r.given.records so_far both.0 both.1) next.gives

-- ---- putting

-- what a reader gave last, if it isn't the end, are records of pages of the stream's table
pub put_fits : (given : LoadSettings) (table : RamTable) (text : List ℕ) (so_far : GivenSoFar) (gave : RecordEvent) (r : Giver) (n : ℕ)
    → (IsEnd gave → ⊥) → PutsNext given table text so_far gave r n → FitsTable table r.given
put_fits given table text so_far gave r n more puts =
    elim puts.has_table [
      | inl end ↦ absurd (more end)
      | inr has ↦ record { has_page_size = puts.gave_next.is_size; has_places = puts.gave_next.has_places has }
    ]

-- how many sections there are then
abbrev pub one_more : RecordEvent → ℕ → ℕ
one_more Section n = n + 1
one_more other n = n

count_more : (gave : RecordEvent) (records : List PageRecord) (so_far : GivenSoFar)
    → one_more gave (length so_far.sections) ≡ length (with_given gave records so_far).sections
count_more Records records so_far = refl
count_more Section records so_far = sym (length-append so_far.sections ((so_far.open_section ++ records) ∷ []))
count_more (End found) records so_far = refl

-- after a step that follows something else than the end, what was given last is among what was
-- given before, and is counted if it ended a section
pub puts_more : (given : LoadSettings) (table : RamTable) (text : List ℕ) (so_far : GivenSoFar) (gave next : RecordEvent)
    (r s : Giver) (n : ℕ) → (IsEnd gave → ⊥) → PutsNext given table text so_far gave r n → Step next r s
    → PutsNext given table text (with_given gave r.given.records so_far) next s (one_more gave n)
puts_more given table text so_far gave next r s n more puts step =
    let then : GivenSoFar = with_given gave r.given.records so_far in record {
      gave_next = gave_on given table text then next r s puts.gave_next.gives step;
      has_sections = ap (one_more gave) puts.has_sections ∙ count_more gave r.given.records so_far;
      has_table = elim puts.has_table [ inl end ↦ absurd (more end) | inr has ↦ inr has ];
    }

given_pages_more : (first : Image) (gave : RecordEvent) (records : List PageRecord) (so_far : GivenSoFar) → (IsEnd gave → ⊥)
    → given_pages first so_far ++ pages_on first records ≡ given_pages first (with_given gave records so_far)
given_pages_more first Records records so_far more = given_more first.table.page_size so_far records
given_pages_more first Section records so_far more = given_last first.table.page_size so_far records
given_pages_more first (End found) records so_far more = absurd (more tt)

-- a memory with the pages given before, into which those given last are written, has the pages
-- of both, unless the end was given last
pub memory_more : (first : Image) (so_far : GivenSoFar) (gave : RecordEvent) (r : RoundOfRecords) (m new : Image) → (IsEnd gave → ⊥)
    → r.page_size ≡ first.table.page_size → m ≡ with_round first (given_pages first so_far)
    → new ≡ with_round m (pages_of_round r) → new ≡ with_round first (given_pages first (with_given gave r.records so_far))
memory_more first so_far gave r m new more size before is =
    is
    ∙ ap (λ (n : ℕ). with_round m (map (page_of n) r.records)) size
    ∙ ap (λ (x : Image). with_round x (pages_on first r.records)) before
    ∙ put_after first (given_pages first so_far) (pages_on first r.records)
    ∙ ap (with_round first) (given_pages_more first gave r.records so_far more)

-- what is written of the records that were given last, and of those that follow, by a loop that has
-- come from there to here
abbrev pub PutsSoFar : RecordEvent → Giver → Image → ℕ → RecordEvent → Giver → Image → ℕ → Type 0
PutsSoFar gave r memory sections next s after more = (given : LoadSettings) (first : Image) (text : List ℕ) (so_far : GivenSoFar)
    → PutsNext given first.table text so_far gave r sections
    → memory ≡ with_round first (given_pages first so_far)
    → (then : GivenSoFar) × PutsNext given first.table text then next s more × (after ≡ with_round first (given_pages first then))

-- the same of the records alone
abbrev pub GivesSoFar : RecordEvent → Giver → ℕ → RecordEvent → Giver → ℕ → Type 0
GivesSoFar gave r sections next s more = (given : LoadSettings) (table : RamTable) (text : List ℕ) (so_far : GivenSoFar)
    → PutsNext given table text so_far gave r sections
    → (then : GivenSoFar) × PutsNext given table text then next s more

-- a loop without a step is where it began: at the same event, reader and number of sections
pub gives_none : (gave : RecordEvent) (r : Giver) (n : ℕ) → GivesSoFar gave r n gave r n
gives_none gave r n = λ given table text so_far puts. (so_far, puts)

-- a loop that came to a reader that gave something else than the end comes, by its next step, to
-- what that step gives
pub gives_on : (first_gave gave next : RecordEvent) (r0 r s : Giver) (n0 n more_n : ℕ) → (IsEnd gave → ⊥) → more_n ≡ one_more gave n
    → Step next r s → GivesSoFar first_gave r0 n0 gave r n
    → GivesSoFar first_gave r0 n0 next s more_n
gives_on first_gave gave next r0 r s n0 n more_n more count step so = λ given table text so_far puts.
    let was = so given table text so_far puts in (
      with_given gave r.given.records was.0,
      subst (λ (k : ℕ). PutsNext given table text (with_given gave r.given.records was.0) next s k) (sym count)
          (puts_more given table text was.0 gave next r s n more was.1 step),
    )

-- a loop without a step leaves the memory, and the number of sections, as they were
pub puts_none : (gave : RecordEvent) (r : Giver) (m : Image) (n : ℕ) → PutsSoFar gave r m n gave r m n
puts_none gave r m n = λ given first text so_far puts is. (so_far, puts, is)

-- a loop that wrote all records but the last given has, with these written and a step taken,
-- written all but those of this step
pub puts_on : (first_gave gave next : RecordEvent) (r0 r s : Giver) (m0 m new : Image) (n0 n more_n : ℕ) → (IsEnd gave → ⊥)
    → more_n ≡ one_more gave n → new ≡ with_round m (pages_of_round r.given) → Step next r s
    → PutsSoFar first_gave r0 m0 n0 gave r m n → PutsSoFar first_gave r0 m0 n0 next s new more_n
puts_on first_gave gave next r0 r s m0 m new n0 n more_n more count is step so = λ given first text so_far puts before.
    let was = so given first text so_far puts before in (
      with_given gave r.given.records was.0,
      subst (λ (k : ℕ). PutsNext given first.table text (with_given gave r.given.records was.0) next s k) (sym count)
          (puts_more given first.table text was.0 gave next r s n more was.1 step),
      memory_more first was.0 gave r.given m new more was.1.gave_next.is_size was.2 is,
    )

-- if some short stream gave this last, and not its end, the same stream gives, after a step, what
-- the step gave
pub some_on : (table : RamTable) (gave next : RecordEvent) (r s : Giver) (n more_n : ℕ) → (IsEnd gave → ⊥) → more_n ≡ one_more gave n
    → Step next r s → PutsNextSome table gave r n → PutsNextSome table next s more_n
some_on table gave next r s n more_n more count step some = record {
  given = some.given;
  text = some.text;
  is_short = some.is_short;
  so_far = with_given gave r.given.records some.so_far;
  puts = subst (λ (k : ℕ). PutsNext some.given table some.text (with_given gave r.given.records some.so_far) next s k) (sym count)
      (puts_more some.given table some.text some.so_far gave next r s n more some.puts step);
}

-- a section more is counted
pub few_more : (table : RamTable) (gave : RecordEvent) (r : Giver) (n : ℕ) → gave ≡ Section → PutsNextSome table gave r n → n + 1 < 2 ^ 63
few_more table gave r n are some =
    let puts : PutsNext some.given table some.text some.so_far Section r n =
    subst (λ (x : RecordEvent). PutsNext some.given table some.text some.so_far x r n) are some.puts in
    let few = few_sections (settings_for table some.given) some.text (with_last r.given.records some.so_far) r puts.gave_next.gives in
    omega (arith, few, some.is_short, puts.has_sections, length-append some.so_far.sections ((some.so_far.open_section ++ r.given.records) ∷ []))

-- all was put
pub puts_all : (first_gave gave : RecordEvent) (found : StreamState) (r0 r : Giver) (m0 m : Image) (n0 n : ℕ) → gave ≡ End found
    → PutsSoFar first_gave r0 m0 n0 gave r m n → PutsAll first_gave r0 m0 n0 found r m n
puts_all first_gave gave found r0 r m0 m n0 n is so = λ given first text so_far puts before.
    let was = so given first text so_far puts before in
    let last : PutsNext given first.table text was.0 (End found) r n = subst (λ (x : RecordEvent). PutsNext given first.table text was.0 x r n) is was.1 in (
      was.0,
      record { gives = last.gave_next.gives; has_reading = last.gave_next.ends; has_none_left = last.gave_next.leaves_none; has_sections = last.has_sections },
      was.2,
    )

-- a reader that gave records hasn't given the end
pub no_end_records : (gave : RecordEvent) → gave ≡ Records → IsEnd gave → ⊥
no_end_records gave is end = subst IsEnd is end

-- a reader that gave a section hasn't given the end
pub no_end_section : (gave : RecordEvent) → gave ≡ Section → IsEnd gave → ⊥
no_end_section gave is end = subst IsEnd is end

-- ---- if a piece was read

-- the stream has the memory's table, or none
pub own_of : (given : LoadSettings) (first : Image) (text : List ℕ) (reading : StreamReading) → IsPageSize first.table.page_size
    → IsReading (settings_of first given) text reading → IsOfTable given first.table text
    → IsOfOwnTable first reading
own_of given first text reading size is (inl has) =
    inl (ap (λ (x : StreamReading). x.table) (same_reading (for_table first.table given) text reading has.0 size is has.1) ∙ sym has.2)
own_of given first text reading size is (inr has) =
    inr (ap (λ (x : StreamReading). x.table) (same_reading (for_table first.table given) text reading has.0 size is has.1) ∙ sym has.2)

-- what was given is what the stream has
pub records_onto : (given : LoadSettings) (first : Image) (text : List
    ℕ) (so_far : GivenSoFar) (found : StreamState) (m : Image) (n : ℕ) → IsPageSize first.table.page_size → IsOfTable given first.table text
    → HasReading (settings_of first given) text so_far found → m ≡ with_round first (given_pages first so_far)
    → n ≡ length so_far.sections → HasRecordsOnto given first text m n
records_onto given first text so_far found m n size own has memory count = record {
  reading = has.reading;
  is_reading = has.is_reading;
  same_table = ap (λ (x : Image). x.table) memory;
  own = λ _. (
    memory
        ∙ sym (put_after first (all_pages (map (pages_on first) so_far.sections)) (pages_on first so_far.open_section))
        ∙ ap (λ (l : List (List PageRecord)). with_round (with_rounds first (map (pages_on first) l))
        (pages_on first so_far.open_section)) (sym has.has_sections)
        ∙ ap (λ (l : List PageRecord). with_round (with_rounds first (map (pages_on first) has.reading.rounds)) (pages_on first l)) (sym has.has_open),
    count ∙ ap (λ (l : List (List PageRecord)). length l) (sym has.has_sections),
  );
  other = λ o. absurd (apart first has.reading (own_of given first text has.reading size has.is_reading own) o);
}

-- ---- how the stream stands then

-- it goes on, and was paused
pub stands_at : (given : LoadSettings) (first : Image) (text : List ℕ) (so_far : GivenSoFar) (p : Paused) (m : Image) (n : ℕ)
    → IsPageSize first.table.page_size → IsOfTable given first.table text
    → HasReading (settings_of first given) text so_far Reading → PausesAt (settings_of first given) text so_far p
    → m ≡ with_round first (given_pages first so_far) → n ≡ length so_far.sections
    → (k : ℕ) → IsValidUpTo (settings_of first given) text k → StandsOnto given first text m n (Some p) (load_state.Stream Reading k)
unfolding records_onto
stands_at given first text so_far p m n size own has at memory count k valid = record {
  has_records = records_onto given first text so_far Reading m n size own has memory count;
  pauses = record { so_far = so_far; pauses = at; is_own = own; has_memory = memory; has_sections = count };
  is_in_state = (own_of given first text has.reading size has.is_reading own, refl, has.has_state);
  is_read_to = valid;
}

-- it doesn't
pub stands_off : (given : LoadSettings) (first : Image) (text : List
    ℕ) (so_far : GivenSoFar) (found : StreamState) (m : Image) (n : ℕ) → IsPageSize first.table.page_size → IsOfTable given first.table text
    → HasReading (settings_of first given) text so_far found → found ≢ Reading → m ≡ with_round first (given_pages first so_far) → n ≡ length so_far.sections
    → (k : ℕ) → IsValidUpTo (settings_of first given) text k → StandsOnto given first text m n None (load_state.Stream found k)
unfolding records_onto
stands_off given first text so_far found m n size own has over memory count k valid = record {
  has_records = records_onto given first text so_far found m n size own has memory count;
  pauses = tt;
  is_in_state = (own_of given first text has.reading size has.is_reading own, over, has.has_state);
  is_read_to = valid;
}

-- the table of a stream, all of which was given
pub all_table : (given : Settings) (text : List ℕ) (so_far : GivenSoFar) (found : StreamState) (r : Giver)
    → Gives given text so_far r → r.found ≡ Some found → HasTable given text (whole_table r.progress)
all_table given text so_far found r g is =
    let to : StreamProgress = all_read so_far r.progress in
    let ends : Ends to r.rest found = subst (λ (o : Option StreamState). IfSome o (λ s. Ends to r.rest s)) is g.ends in (
      record { table = whole_table to; rounds = to.rounds; state = found },
      record {
        to = to;
        rest = r.rest;
        reads = record { front = g.front; has_text = g.has_text; leads = g.leads; ends = ends };
        has_table = refl;
        has_rounds = refl;
      },
      refl,
    )

-- what a reader returns of it
table_told : (given : Settings) (text : List ℕ) (so_far : GivenSoFar) (r : Giver) (table : RamTable) → Gives given text so_far r
    → whole_table r.progress ≡ Some table → HasTable given text (Some table)
table_told given text so_far r table g whole = table_each r (Some table) (Some table) refl (sym whole) given text so_far g

end_table : (given : LoadSettings) (table : RamTable) (text : List ℕ) (so_far : GivenSoFar) (gave : RecordEvent) (r : Giver)
    → IsEnd gave → GaveNext given table text so_far gave r → whole_table r.progress ≡ None
    → HasTable (settings_for table given) text None
end_table given table text so_far Records r end next none = absurd end
end_table given table text so_far Section r end next none = absurd end
end_table given table text so_far (End found) r end next none =
    subst (λ (o : Option RamTable). HasTable (settings_for table given) text o) none
    (all_table (settings_for table given) text so_far found r next.gives next.leaves_none.has_found)

-- the table of the stream is the memory's, as far as it has one
pub own_text : (given : LoadSettings) (table : RamTable) (text : List ℕ) (so_far : GivenSoFar) (gave : RecordEvent) (r : Giver)
    → GaveNext given table text so_far gave r → IsEnd gave ⊎ (whole_table r.progress ≢ None)
    → (whole_table r.progress ≡ None) ⊎ (whole_table r.progress ≡ Some table) → IsOfTable given table text
own_text given table text so_far gave r next there (inr some) =
    inr (table_told (settings_for table given) text (with_given gave r.given.records so_far) r table next.gives some)
own_text given table text so_far gave r next (inl end) (inl none) = inl (end_table given table text so_far gave r end next none)
own_text given table text so_far gave r next (inr some) (inl none) = absurd (some none)

-- and so what was given last may be put
pub puts_first : (given : LoadSettings) (table : RamTable) (text : List
    ℕ) (so_far : GivenSoFar) (gave : RecordEvent) (r : Giver) (n : ℕ) → GaveNext given table text so_far gave r → IsEnd gave ⊎ (whole_table r.progress ≢ None)
    → (whole_table r.progress ≡ None) ⊎ (whole_table r.progress ≡ Some table) → n ≡ length so_far.sections → PutsNext given table text so_far gave r n
puts_first given table text so_far gave r n next there own count = record { gave_next = next; has_sections = count; has_table = at there own }
  where
    at : IsEnd gave ⊎ (whole_table r.progress ≢ None) → (whole_table r.progress ≡ None) ⊎ (whole_table r.progress ≡ Some table)
        → IsEnd gave ⊎ HasTable (settings_for table given) text (Some table)
    at (inl end) o = inl end
    at (inr some) (inl none) = absurd (some none)
    at (inr some) (inr whole) = inr (table_told (settings_for table given) text (with_given gave r.given.records so_far) r table next.gives whole)

-- ---- another table

-- a longer stream keeps its table
table_longer : (given : LoadSettings) (table : RamTable) (text piece : List ℕ) (t : RamTable) → IsPageSize table.page_size
    → HasTable (settings_for table given) text (Some t) → (now : StreamReading)
    → IsReading (settings_for table given) (text ++ piece) now → now.table ≡ Some t
table_longer given table text piece t size has now is_now =
    (longer_law (settings_for table given) text piece has.0 now size has.1 is_now).same_table t (sym has.2)

-- nothing was put of it
pub stands_other : (given : LoadSettings) (first : Image)
    (text piece : List ℕ) (p : Paused) (m : Image) (n : ℕ) (so_far : GivenSoFar) (r : Giver) (t : RamTable) → IsImage first → PausesOnto given first text p m n
    → Gives (settings_of first given) (text ++ piece) so_far r → whole_table r.progress ≡ Some t → t ≢ first.table
    → StandsOnto given first (text ++ piece) m n None load_state.OtherTable
stands_other given first text piece p m n so_far r t image at g whole differ =
    let single = settings_of first given in
    let has : HasTable single (text ++ piece) (Some t) = table_told single (text ++ piece) so_far r t g whole in
    let reading : StreamReading = has.0 in
    let other : IsOfOtherTable first reading = (t, sym has.2, differ) in
    let size : IsPageSize first.table.page_size = g.is_page_size in
    let before : HasTable single text None =
    elim at.is_own [
      | inl none ↦ none
      | inr own ↦ absurd (differ (let both : Some t ≡ Some first.table = has.2
          ∙ table_longer given first.table text piece first.table size own reading has.1 in cc))
    ] in
    let told : HasTable single text (whole_table p.progress) = paused_table single text at.so_far p at.pauses in
    let none : whole_table p.progress ≡ None =
    told.2 ∙ ap (λ (x : StreamReading). x.table) (same_reading (for_table first.table given) text told.0 before.0 size told.1 before.1) ∙ sym before.2 in
    let both = none_before_table single text at.so_far (giver_at p) at.pauses none in
    let nothing : given_pages first at.so_far ≡ [] =
    ap (λ (l : List (List PageRecord)). all_pages (map (pages_on first) l) ++ pages_on first at.so_far.open_section) both.0
    ∙ ap (λ (l : List PageRecord). pages_on first l) both.1 in
    record {
      has_records = record {
        reading = reading;
        is_reading = has.1;
        same_table = ap (λ (x : Image). x.table) at.has_memory;
        own = λ own. absurd (apart first reading own other);
        other = λ _. (
          at.has_memory ∙ ap (with_round first) nothing ∙ onto-nil first image,
          at.has_sections
              ∙ ap (λ (l : List (List PageRecord)). length l) both.0,
        );
      };
      pauses = tt;
      is_in_state = other;
      is_read_to = tt;
    }

-- ---- before the first byte

-- the empty stream has no table but this one
pub own_first : (given : LoadSettings) (table : RamTable) → IsOfTable given table []
own_first given table =
    let begin : StreamProgress = start given.frame Single table.page_size given.limit given.waiting in
    let reads : Reads begin [] begin [] Reading = reads_short begin [] (omega arith) in
    inl (record { table = None; rounds = []; state = Reading }, record { to = begin; rest = []; reads = reads; has_table = refl; has_rounds = refl }, refl)

-- a load that is paused before the first byte, with no place named, loads the empty stream and
-- has the memory as it was first
pub in_place_first : (given : LoadSettings) (first : Image) (p : Paused) (table : RamTable) (named : PlaceSet)
    → IsTable first.table → IsImage first → first.table ≡ table → named ≡ none_named first.table
    → PausesAt (settings_for first.table given) [] none_given p
    → LoadsInPlace first given first (load_in_place (Some p) (load_state.Stream Reading 0) table named 0 0 false) [] false
in_place_first given first p table named is image same none at =
    let begin : StreamProgress = start given.frame Single first.table.page_size given.limit given.waiting in
    let reading : StreamReading = record { table = None; rounds = []; state = Reading } in
    let reads : Reads begin [] begin [] Reading = reads_short begin [] (omega arith) in
    let is_reading : IsReading (settings_of first given) [] reading = record { to = begin; rest = []; reads = reads; has_table = refl; has_rounds = refl } in
    let nothing : first ≡ with_rounds first [] = sym (onto-nil first image) in
    record {
      is_table = is;
      is_image = image;
      same_table = same;
      has_fed = refl;
      has_ended = refl;
      stands = record {
        has_records = record {
          reading = reading;
          is_reading = is_reading;
          same_table = refl;
          own = λ _. (nothing ∙ ap (λ (x : Image). with_rounds x []) nothing, refl);
          other = λ o. absurd (apart first reading (inl refl) o);
        };
        pauses = record { so_far = none_given; pauses = at; is_own = own_first given first.table; has_memory = nothing; has_sections = refl };
        is_in_state = (inl refl, refl, refl);
        is_read_to = record {
          to = begin;
          rest = [];
          state = Reading;
          reads = reads;
          has_length = omega (arith, ap (λ (l : List ℕ). length l) reads.has_text, length-append reads.front []);
        };
      };
      names = record {
        has_named = record {
          reading = reading;
          is_reading = is_reading;
          own = λ _. none ∙ named_by-nil first.table;
          other = λ o. absurd (apart first reading (inl refl) o);
        };
        at_pause = record {
          so_far = none_given;
          pauses = at;
          is_own = own_first given first.table;
          has_named = none ∙ named_by-nil first.table;
          has_sections = refl;
        };
      };
    }

-- ---- as long as it is read on

-- where the stream is read on its reading hasn't come to an end
reads_on : (first : Image) (reading : StreamReading) (p : Paused) (found : LoadState) → IsInState first reading (Some p) found → reading.state ≡ Reading
reads_on first reading p (load_state.Stream found at) s = s.2 ∙ s.1
reads_on first reading p load_state.OtherTable s = absurd s
reads_on first reading p load_state.NoMemory s = absurd s

-- the stream of a load that is paused is neither closed nor bad
pub settled_ends : (given : LoadSettings) (first : Image) (text : List ℕ) (m : Image) (n : ℕ) (p : Paused) (found : LoadState) → IsTable first.table
    → StandsOnto given first text m n (Some p) found → IsFinal (settings_of first given) text → ⊥
settled_ends given first text m n p found is st settled =
    let same : settled.0 ≡ st.has_records.reading =
    same_reading (for_table first.table given) text settled.0 st.has_records.reading is.has_page_size settled.1 st.has_records.is_reading in
    settled.2 (ap (λ (x : StreamReading). x.state) same ∙ reads_on first st.has_records.reading p found st.is_in_state)

-- and its table isn't another one
own_on : (first : Image) (reading : StreamReading) (p : Paused) (found : LoadState) → IsInState first reading (Some p) found → IsOfOwnTable first reading
own_on first reading p (load_state.Stream found at) s = s.0
own_on first reading p load_state.OtherTable s = absurd s
own_on first reading p load_state.NoMemory s = absurd s

-- the stream of a load that is paused has no table but the memory's
pub other_ends : (given : LoadSettings) (first : Image) (text : List ℕ) (m : Image) (n : ℕ) (p : Paused) (found : LoadState) → IsTable first.table
    → StandsOnto given first text m n (Some p) found → HasOtherTable given first text → ⊥
other_ends given first text m n p found is st other =
    let same : other.0 ≡ st.has_records.reading =
    same_reading (for_table first.table given) text other.0 st.has_records.reading is.has_page_size other.1 st.has_records.is_reading in
    apart first st.has_records.reading (own_on first st.has_records.reading p found st.is_in_state)
    (subst (λ (x : StreamReading). IsOfOtherTable first x) same other.2)

-- ---- the verdict

of_state : (first : Image) (reading : StreamReading) (pause : Option Paused) (found : StreamState) (at : ℕ)
    → IsInState first reading pause (load_state.Stream found at) → IsOfOwnTable first reading × (reading.state ≡ found)
of_state first reading None found at s = (s.0, s.2)
of_state first reading (Some p) found at s = (s.0, s.2)

of_other : (first : Image) (reading : StreamReading) (pause : Option Paused) → IsInState first reading pause load_state.OtherTable
    → IsOfOtherTable first reading
of_other first reading None s = s
of_other first reading (Some p) s = absurd s

of_none : (first : Image) (reading : StreamReading) (pause : Option Paused) → IsInState first reading pause load_state.NoMemory → ⊥
of_none first reading None s = s
of_none first reading (Some p) s = s

-- the verdict by a load's state, as the stream is read, is the verdict on the stream so far
pub verdict_onto : (given : LoadSettings) (first : Image) (text : List ℕ) (m : Image) (n : ℕ) (pause : Option
    Paused) (found : StreamState) (at : ℕ) (v : Result ⊤ LoadFault) → StandsOnto given first text m n pause (load_state.Stream found at)
    → v ≡ verdict_of n found → HasVerdictOnto given first text v
verdict_onto given first text m n pause found at v st is =
    let reading : StreamReading = st.has_records.reading in
    let so : IsOfOwnTable first reading × (reading.state ≡ found) = of_state first reading pause found at st.is_in_state in
    record {
      reading = reading;
      is_reading = st.has_records.is_reading;
      own = λ own. is ∙ ap (λ (k : ℕ). verdict_of k found) (st.has_records.own own).1 ∙ ap (verdict_of (length reading.rounds)) (sym so.1);
      other = λ o. absurd (apart first reading so.0 o);
    }

-- ---- the byte at which it is closed, and its valid prefix

-- if a load's state is closed at a byte, its stream is closed there
pub closed_onto : (given : LoadSettings) (first : Image) (text : List ℕ) (m : Image) (n : ℕ) (pause : Option Paused) (at : ℕ)
    → StandsOnto given first text m n pause (load_state.Stream Closed at)
    → HasClosedAtOnto given first text (Some at)
closed_onto given first text m n pause at st =
    let reading : StreamReading = st.has_records.reading in
    let so : IsOfOwnTable first reading × (reading.state ≡ Closed) = of_state first reading pause Closed at st.is_in_state in
    record {
      reading = reading;
      is_reading = st.has_records.is_reading;
      own = λ own. (closed_is_valid (settings_of first given) text at (reading, st.has_records.is_reading, sym so.1)).0 st.is_read_to;
      other = λ o. absurd (apart first reading so.0 o);
    }

-- if a load's state isn't closed at any byte, None is where its stream is closed
pub open_onto : (given : LoadSettings) (first : Image) (text : List ℕ) (m : Image) (n : ℕ) (pause : Option
    Paused) (found : LoadState) → ((at : ℕ) → found ≢ load_state.Stream Closed at)
    → StandsOnto given first text m n pause found → HasClosedAtOnto given first text None
open_onto given first text m n pause (load_state.Stream found at) open_ st =
    let reading : StreamReading = st.has_records.reading in
    let so : IsOfOwnTable first reading × (reading.state ≡ found) = of_state first reading pause found at st.is_in_state in
    record {
      reading = reading;
      is_reading = st.has_records.is_reading;
      own = λ own. (reading, st.has_records.is_reading, λ closed. open_ at (ap (λ (s : StreamState). load_state.Stream s at) (sym so.1 ∙ closed)));
      other = λ o. refl;
    }
open_onto given first text m n pause load_state.OtherTable open_ st = record {
  reading = st.has_records.reading;
  is_reading = st.has_records.is_reading;
  own = λ own. absurd (apart first st.has_records.reading own (of_other first st.has_records.reading pause st.is_in_state));
  other = λ o. refl;
}
open_onto given first text m n pause load_state.NoMemory open_ st = absurd (of_none first st.has_records.reading pause st.is_in_state)

-- if a load reads the stream as that of its memory, the stream is valid up to its state's byte
pub valid_onto : (given : LoadSettings) (first : Image) (text : List ℕ) (m : Image) (n : ℕ) (pause : Option
    Paused) (found : StreamState) (at : ℕ) → StandsOnto given first text m n pause (load_state.Stream found at)
    → IsValidUpToOnto given first text (Some at)
valid_onto given first text m n pause found at st =
    let reading : StreamReading = st.has_records.reading in
    let so : IsOfOwnTable first reading × (reading.state ≡ found) = of_state first reading pause found at st.is_in_state in
    record {
      reading = reading;
      is_reading = st.has_records.is_reading;
      own = λ own. (at, refl, st.is_read_to);
      other = λ o. absurd (apart first reading so.0 o);
    }

-- if a load found another table, None is up to where its stream is valid
pub unread_onto : (given : LoadSettings) (first : Image) (text : List ℕ) (m : Image) (n : ℕ) (pause : Option Paused)
    → StandsOnto given first text m n pause load_state.OtherTable → IsValidUpToOnto given first text None
unread_onto given first text m n pause st = record {
  reading = st.has_records.reading;
  is_reading = st.has_records.is_reading;
  own = λ own. absurd (apart first st.has_records.reading own (of_other first st.has_records.reading pause st.is_in_state));
  other = λ o. refl;
}

-- the byte that a load's state has for the stream's end is where the stream is closed, if it is
pub closed_told : (given : LoadSettings) (first : Image) (text : List ℕ) (m : Image) (n : ℕ) (pause : Option
    Paused) (found : LoadState) → StandsOnto given first text m n pause found
    → HasClosedAtOnto given first text (closed_place found)
closed_told given first text m n pause (load_state.Stream Closed at) st = closed_onto given first text m n pause at st
closed_told given first text m n pause (load_state.Stream Reading at) st =
    open_onto given first text m n pause (load_state.Stream Reading at) (λ k e. absurd cc) st
closed_told given first text m n pause (load_state.Stream (Bad fault) at) st =
    open_onto given first text m n pause (load_state.Stream (Bad fault) at) (λ k e. absurd cc) st
closed_told given first text m n pause load_state.OtherTable st = open_onto given first text m n pause load_state.OtherTable (λ k e. absurd cc) st
closed_told given first text m n pause load_state.NoMemory st = absurd (of_none first st.has_records.reading pause st.is_in_state)

-- the byte that a load's state has for the valid prefix is up to where the stream is valid
pub valid_told : (given : LoadSettings) (first : Image) (text : List ℕ) (m : Image) (n : ℕ) (pause : Option
    Paused) (found : LoadState) → StandsOnto given first text m n pause found
    → IsValidUpToOnto given first text (valid_place found)
valid_told given first text m n pause (load_state.Stream found at) st = valid_onto given first text m n pause found at st
valid_told given first text m n pause load_state.OtherTable st = unread_onto given first text m n pause st
valid_told given first text m n pause load_state.NoMemory st = absurd (of_none first st.has_records.reading pause st.is_in_state)

-- ---- a stream that isn't read on

reading_more : (given : Settings) (text piece : List ℕ) (reading : StreamReading) → IsReading given text reading
    → reading.state ≢ Reading → IsReading given (text ++ piece) reading
reading_more given text piece reading is over = record {
  to = is.to;
  rest = is.rest ++ piece;
  reads = record {
    front = is.reads.front;
    has_text = ap (λ (x : List ℕ). x ++ piece) is.reads.has_text ∙ append_assoc is.reads.front is.rest piece;
    leads = is.reads.leads;
    ends = Ends-more is.to is.rest piece reading.state over is.reads.ends;
  };
  has_table = is.has_table;
  has_rounds = is.has_rounds;
}

-- so does the place up to which it is valid
valid_more : (given : LoadSettings) (first : Image) (text piece : List ℕ) (reading : StreamReading) (at : ℕ)
    → IsPageSize first.table.page_size → IsReading (settings_of first given) text reading → reading.state ≢ Reading
    → IsValidUpTo (settings_of first given) text at → IsValidUpTo (settings_of first given) (text ++ piece) at
valid_more given first text piece reading at size is over v =
    let other : StreamReading = record { table = whole_table v.to; rounds = v.to.rounds; state = v.state } in
    let is_other : IsReading (settings_of first given) text other = record { to = v.to; rest = v.rest; reads = v.reads; has_table = refl; has_rounds = refl } in
    let same : v.state ≡ reading.state = ap (λ (x : StreamReading). x.state) (same_reading (for_table first.table given) text other reading size is_other is) in
    record {
      to = v.to;
      rest = v.rest ++ piece;
      state = v.state;
      reads = record {
        front = v.reads.front;
        has_text = ap (λ (x : List ℕ). x ++ piece) v.reads.has_text ∙ append_assoc v.reads.front v.rest piece;
        leads = v.reads.leads;
        ends = Ends-more v.to v.rest piece v.state (λ e. over (sym same ∙ e)) v.reads.ends;
      };
      has_length = v.has_length;
    }

-- a load without a pause keeps its memory and state when bytes are added to its stream
pub stands_more : (given : LoadSettings) (first : Image) (text piece : List ℕ) (m : Image) (n : ℕ) (found : LoadState)
    → IsPageSize first.table.page_size → StandsOnto given first text m n None found
    → StandsOnto given first (text ++ piece) m n None found
unfolding reading_more
stands_more given first text piece m n (load_state.Stream found at) size st =
    let has = st.has_records in
    let over : has.reading.state ≢ Reading = λ e. st.is_in_state.1 (sym st.is_in_state.2 ∙ e) in
    record {
      has_records = record {
        reading = has.reading;
        is_reading = reading_more (settings_of first given) text piece has.reading has.is_reading over;
        same_table = has.same_table;
        own = has.own;
        other = has.other;
      };
      pauses = tt;
      is_in_state = st.is_in_state;
      is_read_to = valid_more given first text piece has.reading at size has.is_reading over st.is_read_to;
    }
stands_more given first text piece m n load_state.OtherTable size st =
    let has = st.has_records in
    let single = settings_of first given in
    let now = one_reading_law single (text ++ piece) size in
    let stays : StaysRead has.reading now.0 = longer_law single text piece has.reading now.0 size has.is_reading now.1 in
    let other : IsOfOtherTable first now.0 = (st.is_in_state.0, stays.same_table st.is_in_state.0 st.is_in_state.1, st.is_in_state.2) in
    record {
      has_records = record {
        reading = now.0;
        is_reading = now.1;
        same_table = has.same_table;
        own = λ own. absurd (apart first now.0 own other);
        other = λ _. has.other st.is_in_state;
      };
      pauses = tt;
      is_in_state = other;
      is_read_to = tt;
    }
stands_more given first text piece m n load_state.NoMemory size st = absurd st.is_in_state

-- ---- the places that were named

-- those of the records that were given last, too
places_more : (first : Image) (so_far : GivenSoFar) (gave : RecordEvent) (r : RoundOfRecords) (s new : PlaceSet) → (IsEnd gave → ⊥)
    → r.page_size ≡ first.table.page_size
    → HasPlaces first.table (given_places first so_far) s → new ≡ with_places s (places_of (pages_of_round r))
    → HasPlaces first.table (given_places first (with_given gave r.records so_far)) new
places_more first so_far gave r s new more size before is =
    is
    ∙ ap (λ (n : ℕ). with_places s (places_of (map (page_of n) r.records))) size
    ∙ names_more first.table (given_places first so_far) (places_of (pages_on first r.records)) s before
    ∙ ap (λ (l : List Place). record { table = first.table; marked = places_where first.table (has_place l) })
    (sym (map-append (λ (x : Page). x.place) (given_pages first so_far) (pages_on first r.records))
    ∙ ap (λ (l : List Page). places_of l) (given_pages_more first gave r.records so_far more))

-- what is named of the records that were given last, and of those that follow, by a loop that has
-- come from there to here
abbrev pub NamesSoFar : RecordEvent → Giver → PlaceSet → ℕ → RecordEvent → Giver → PlaceSet → ℕ → Type 0
NamesSoFar gave r named sections next s after more = (given : LoadSettings) (first : Image) (text : List ℕ) (so_far : GivenSoFar)
    → PutsNext given first.table text so_far gave r sections
    → HasPlaces first.table (given_places first so_far) named
    → (then : GivenSoFar) × PutsNext given first.table text then next s more × HasPlaces first.table (given_places first then) after

-- a loop without a step leaves the named places as they were
pub names_none : (gave : RecordEvent) (r : Giver) (s : PlaceSet) (n : ℕ) → NamesSoFar gave r s n gave r s n
names_none gave r s n = λ given first text so_far puts is. (so_far, puts, is)

-- a loop that named the places of all records but the last given has, with these named and a
-- step taken, named all but those of this step
pub names_on : (first_gave gave next : RecordEvent) (r0 r s : Giver) (s0 now new : PlaceSet) (n0 n more_n : ℕ) → (IsEnd gave → ⊥)
    → more_n ≡ one_more gave n → new ≡ with_places now (places_of (pages_of_round r.given)) → Step next r s
    → NamesSoFar first_gave r0 s0 n0 gave r now n → NamesSoFar first_gave r0 s0 n0 next s new more_n
names_on first_gave gave next r0 r s s0 now new n0 n more_n more count is step so = λ given first text so_far puts before.
    let was = so given first text so_far puts before in (
      with_given gave r.given.records was.0,
      subst (λ (k : ℕ). PutsNext given first.table text (with_given gave r.given.records was.0) next s k) (sym count)
          (puts_more given first.table text was.0 gave next r s n more was.1 step),
      places_more first was.0 gave r.given now new more was.1.gave_next.is_size was.2 is,
    )

-- a loop that came to the end of the records has named the places of all of them
pub names_all : (first_gave gave : RecordEvent) (found : StreamState) (r0 r : Giver) (s0 now : PlaceSet) (n0 n : ℕ) → gave ≡ End found
    → NamesSoFar first_gave r0 s0 n0 gave r now n → NamesAll first_gave r0 s0 n0 found r now n
names_all first_gave gave found r0 r s0 now n0 n is so = λ given first text so_far puts before.
    let was = so given first text so_far puts before in
    let last : PutsNext given first.table text was.0 (End found) r n = subst (λ (x : RecordEvent). PutsNext given first.table text was.0 x r n) is was.1 in (
      was.0,
      record { gives = last.gave_next.gives; has_reading = last.gave_next.ends; has_none_left = last.gave_next.leaves_none; has_sections = last.has_sections },
      was.2,
    )

-- what was named is what the stream names
pub named_onto : (given : LoadSettings) (first : Image) (text : List ℕ) (so_far : GivenSoFar) (found : StreamState) (s : PlaceSet)
    → IsPageSize first.table.page_size → IsOfTable given first.table text
    → HasReading (settings_of first given) text so_far found → HasPlaces first.table (given_places first so_far) s → HasNamedOnto given first text s
named_onto given first text so_far found s size own has names = record {
  reading = has.reading;
  is_reading = has.is_reading;
  own = λ _.
      names
      ∙ ap (λ (l : List (List PageRecord)). record {
        table = first.table;
        marked = places_where first.table (has_place (places_of (pages_of_all first l so_far.open_section)));
      }) (sym has.has_sections)
      ∙ ap (λ (l : List PageRecord). record {
        table = first.table;
        marked = places_where first.table (has_place (places_of (pages_of_all first has.reading.rounds l)));
      }) (sym has.has_open);
  other = λ o. absurd (apart first has.reading (own_of given first text has.reading size has.is_reading own) o);
}

-- a stream that isn't read on names no more when it grows
named_more : (given : LoadSettings) (first : Image) (text piece : List ℕ) (m : Image) (n : ℕ) (found : LoadState) (s : PlaceSet)
    → IsPageSize first.table.page_size → StandsOnto given first text m n None found
    → HasNamedOnto given first text s → HasNamedOnto given first (text ++ piece) s
unfolding reading_more
named_more given first text piece m n (load_state.Stream found at) s size st has =
    let same : st.has_records.reading ≡ has.reading =
    same_reading (for_table first.table given) text st.has_records.reading has.reading size st.has_records.is_reading has.is_reading in
    record {
      reading = has.reading;
      is_reading = reading_more (settings_of first given) text piece has.reading has.is_reading
          (λ e. st.is_in_state.1 (sym st.is_in_state.2 ∙ ap (λ (x : StreamReading). x.state) same ∙ e));
      own = has.own;
      other = has.other;
    }
named_more given first text piece m n load_state.OtherTable s size st has =
    let single = settings_of first given in
    let now = one_reading_law single (text ++ piece) size in
    let same : st.has_records.reading ≡ has.reading =
    same_reading (for_table first.table given) text st.has_records.reading has.reading size st.has_records.is_reading has.is_reading in
    let was : IsOfOtherTable first has.reading = subst (λ (x : StreamReading). IsOfOtherTable first x) same st.is_in_state in
    let stays : StaysRead has.reading now.0 = longer_law single text piece has.reading now.0 size has.is_reading now.1 in
    record {
      reading = now.0;
      is_reading = now.1;
      own = λ own. absurd (apart first now.0 own (was.0, stays.same_table was.0 was.1, was.2));
      other = λ _. has.other was;
    }
named_more given first text piece m n load_state.NoMemory s size st has = absurd st.is_in_state

-- ---- a piece of it

-- what a pause that goes on is given by
pub gave_of : (given : LoadSettings) (table : RamTable) (text : List ℕ) (so_far : GivenSoFar) (p : Paused)
    → PausesAt (settings_for table given) text so_far p → p.progress.page_size ≡ table.page_size
gave_of given table text so_far p at = same_page_size (settings_for table given) text so_far (giver_at p) at

-- a reader that was made of a pause, and has found the table, or the end of its piece
pub record Found (p : Paused) (piece : List ℕ) (first r : Giver) (gave : RecordEvent) : Type 0 where
  pub resumed : (single : Settings) (text : List ℕ) (so_far : GivenSoFar) → PausesAt single text so_far p → Gives single (text ++ piece) so_far first
  pub is_fresh : first.given ≡ record { page_size = p.progress.page_size; records = [] }
  pub gave_next : (given : LoadSettings) (table : RamTable) (text : List ℕ) (so_far : GivenSoFar)
      → Gives (settings_for table given) text so_far first → first.given.page_size ≡ table.page_size
      → GaveNext given table text so_far gave r
  pub there : IsEnd gave ⊎ (whole_table r.progress ≢ None)

-- a reader resumed at a pause, with a piece, gave its event last of the stream with the piece
pub found_next : (given : LoadSettings) (table : RamTable) (text piece : List ℕ) (so_far : GivenSoFar) (p : Paused)
    (first r : Giver) (gave : RecordEvent) → Found p piece first r gave → PausesAt (settings_for table given) text so_far p
    → GaveNext given table (text ++ piece) so_far gave r
found_next given table text piece so_far p first r gave f at =
    f.gave_next given table (text ++ piece) so_far (f.resumed (settings_for table given) text so_far at)
    (ap (λ (x : RoundOfRecords). x.page_size) f.is_fresh ∙ gave_of given table text so_far p at)

-- what a resumed reader gave last, if it has found no other table, are records of pages of this
-- table, after so many sections
pub found_puts : (given : LoadSettings) (table : RamTable) (text piece : List ℕ) (so_far : GivenSoFar) (p : Paused)
    (first r : Giver) (gave : RecordEvent) (n : ℕ) → Found p piece first r gave
    → PausesAt (settings_for table given) text so_far p → (whole_table r.progress ≡ None) ⊎ (whole_table r.progress ≡ Some table) → n ≡ length so_far.sections
    → PutsNext given table (text ++ piece) so_far gave r n
found_puts given table text piece so_far p first r gave n f at own count =
    puts_first given table (text ++ piece) so_far gave r n (found_next given table text piece so_far p first r gave f at) f.there own count

-- if a pause is one of some stream of this table, and the piece is short enough, some stream of
-- fewer than 2^63 bytes gave this last
pub found_some : (given : LoadSettings) (fed : ℕ) (table : RamTable) (piece : List ℕ) (p : Paused)
    (first r : Giver) (gave : RecordEvent) (n : ℕ) → Found p piece first r gave → PausesSome given table p n fed
    → fed + length piece < 2 ^ 63 → (whole_table r.progress ≡ None) ⊎ (whole_table r.progress ≡ Some table) → PutsNextSome table gave r n
found_some given fed table piece p first r gave n f some short own = record {
  given = given;
  text = some.text ++ piece;
  is_short = omega (arith, short, some.has_fed, length-append some.text piece);
  so_far = some.so_far;
  puts = found_puts given table some.text piece some.so_far p first r gave n f some.pauses own some.has_sections;
}

-- if a piece completes another table than the memory's, the load has the state OtherTable, no
-- pause, and its memory as it was
pub found_other : (given : LoadSettings) (first : Image) (text piece : List ℕ) (p : Paused) (m : Image) (n : ℕ)
    (fresh r : Giver) (gave : RecordEvent) (t : RamTable) → IsImage first → Found p piece fresh r gave
    → PausesOnto given first text p m n → whole_table r.progress ≡ Some t → t ≢ first.table
    → StandsOnto given first (text ++ piece) m n None load_state.OtherTable
found_other given first text piece p m n fresh r gave t image f at whole differ =
    stands_other given first text piece p m n (with_given gave r.given.records at.so_far) r t image at
    (found_next given first.table text piece at.so_far p fresh r gave f at.pauses).gives whole differ

-- what a reader returns, once it reads no further, of a stream of fewer than 2^64 bytes
abbrev pub TellsValid : Giver → ℕ → Type 0
TellsValid r at = r.found ≢ None → GiverTells r (λ given text so_far. length text < 2 ^ 64 → IsValidUpTo given text at)

-- all was put
pub found_all : (given : LoadSettings) (first : Image) (text piece : List ℕ) (p : Paused) (m new : Image) (n more : ℕ)
    (fresh r s : Giver) (gave : RecordEvent) (found : StreamState) → Found p piece fresh r gave
    → PausesOnto given first text p m n → (whole_table r.progress ≡ None) ⊎ (whole_table r.progress ≡ Some first.table) → PutsAll gave r m n found s new more
    → (then : GivenSoFar) × GaveAll given first.table (text ++ piece) then found s more
    × (new ≡ with_round first (given_pages first then)) × IsOfTable given first.table (text ++ piece)
found_all given first text piece p m new n more fresh r s gave found f at own puts =
    let next = found_puts given first.table text piece at.so_far p fresh r gave n f at.pauses own at.has_sections in
    let all = puts given first (text ++ piece) at.so_far next at.has_memory in (
      all.0,
      all.1,
      all.2,
      own_text given first.table (text ++ piece) at.so_far gave r next.gave_next f.there own,
    )

-- if all records of a piece were written, and the stream isn't read on, the memory has all
-- records with the piece, and the load has this state and no pause
pub found_off : (given : LoadSettings) (first : Image) (text piece : List ℕ) (p : Paused) (m new : Image) (n more : ℕ)
    (fresh r s : Giver) (gave : RecordEvent) (found : StreamState) → Found p piece fresh r gave
    → PausesOnto given first text p m n → (whole_table r.progress ≡ None) ⊎ (whole_table r.progress ≡ Some first.table)
    → PutsAll gave r m n found s new more → found ≢ Reading
    → (k : ℕ) → TellsValid s k → length (text ++ piece) < 2 ^ 64 → StandsOnto given first (text ++ piece) new more None (load_state.Stream found k)
found_off given first text piece p m new n more fresh r s gave found f at own puts over k tells few =
    let all = found_all given first text piece p m new n more fresh r s gave found f at own puts in
    stands_off given first (text ++ piece) all.0 found new more all.1.gives.is_page_size all.3 all.1.has_reading over all.2 all.1.has_sections k
    (tells (λ none. let bad : Some found ≡ None = sym all.1.has_none_left.has_found ∙ none in absurd cc) (settings_of first given)
    (text ++ piece) all.0 all.1.gives few)

-- if all records of a piece were written, and the stream is read on, the memory has all records
-- with the piece, and the load is paused after it
pub found_on : (given : LoadSettings) (first : Image) (text piece : List ℕ) (p q : Paused) (m new : Image) (n more : ℕ)
    (fresh r s : Giver) (gave : RecordEvent) (found : StreamState) → Found p piece fresh r gave
    → PausesOnto given first text p m n → (whole_table r.progress ≡ None) ⊎ (whole_table r.progress ≡ Some first.table)
    → PutsAll gave r m n found s new more → found ≡ Reading
    → ((single : Settings) (text : List ℕ) (so_far : GivenSoFar) → Gives single text so_far s → PausesAt single text so_far q)
    → (k : ℕ) → TellsValid s k → length (text ++ piece) < 2 ^ 64 → StandsOnto given first (text ++ piece) new more (Some q) (load_state.Stream found k)
found_on given first text piece p q m new n more fresh r s gave found f at own puts is pauses k tells few =
    let all = found_all given first text piece p m new n more fresh r s gave found f at own puts in
    let has : HasReading (settings_of first given) (text ++ piece) all.0 Reading =
    subst (λ (x : StreamState). HasReading (settings_of first given) (text ++ piece) all.0 x) is all.1.has_reading in
    subst (λ (x : StreamState). StandsOnto given first (text ++ piece) new more (Some q) (load_state.Stream x k)) (sym is)
    (stands_at given first (text ++ piece) all.0 q new more all.1.gives.is_page_size all.3 has
    (pauses (settings_of first given) (text ++ piece) all.0 all.1.gives) all.2 all.1.has_sections k
    (tells (λ none. let bad : Some found ≡ None = sym all.1.has_none_left.has_found ∙ none in absurd cc) (settings_of first given)
    (text ++ piece) all.0 all.1.gives few))

-- and named
found_named : (given : LoadSettings) (first : Image) (text piece : List ℕ) (p : Paused) (s new : PlaceSet) (n more : ℕ)
    (fresh r last : Giver) (gave : RecordEvent) (found : StreamState) → Found p piece fresh r gave
    → NamesAt given first text p s n → (whole_table r.progress ≡ None) ⊎ (whole_table r.progress ≡ Some first.table) → NamesAll gave r s n found last new more
    → (then : GivenSoFar) × GaveAll given first.table (text ++ piece) then found last more
    × HasPlaces first.table (given_places first then) new × IsOfTable given first.table (text ++ piece)
found_named given first text piece p s new n more fresh r last gave found f at own names =
    let next = found_puts given first.table text piece at.so_far p fresh r gave n f at.pauses own at.has_sections in
    let all = names given first (text ++ piece) at.so_far next at.has_named in (
      all.0,
      all.1,
      all.2,
      own_text given first.table (text ++ piece) at.so_far gave r next.gave_next f.there own,
    )

-- if the places of all records of a piece were named, the set has those of the stream with the
-- piece, where the load keeps no pause
pub names_off : (given : LoadSettings) (first : Image) (text piece : List ℕ) (p : Paused) (s new : PlaceSet) (n more : ℕ)
    (fresh r last : Giver) (gave : RecordEvent) (found : StreamState) → Found p piece fresh r gave
    → NamesAt given first text p s n → (whole_table r.progress ≡ None) ⊎ (whole_table r.progress ≡ Some first.table)
    → NamesAll gave r s n found last new more → Names given first (text ++ piece) new more None
names_off given first text piece p s new n more fresh r last gave found f at own names =
    let all = found_named given first text piece p s new n more fresh r last gave found f at own names in
    record { has_named = named_onto given first (text ++ piece) all.0 found new all.1.gives.is_page_size all.3 all.1.has_reading all.2; at_pause = tt }

-- if the places of all records of a piece were named, the set has those of the stream with the
-- piece, where the load is paused after it
pub names_at : (given : LoadSettings) (first : Image) (text piece : List ℕ) (p q : Paused) (s new : PlaceSet) (n more : ℕ)
    (fresh r last : Giver) (gave : RecordEvent) (found : StreamState) → Found p piece fresh r gave
    → NamesAt given first text p s n → (whole_table r.progress ≡ None) ⊎ (whole_table r.progress ≡ Some first.table) → NamesAll gave r s n found last new more
    → ((single : Settings) (text : List ℕ) (so_far : GivenSoFar) → Gives single text so_far last → PausesAt single text so_far q)
    → Names given first (text ++ piece) new more (Some q)
names_at given first text piece p q s new n more fresh r last gave found f at own names pauses =
    let all = found_named given first text piece p s new n more fresh r last gave found f at own names in
    record {
      has_named = named_onto given first (text ++ piece) all.0 found new all.1.gives.is_page_size all.3 all.1.has_reading all.2;
      at_pause = record {
        so_far = all.0;
        pauses = pauses (settings_of first given) (text ++ piece) all.0 all.1.gives;
        is_own = all.3;
        has_named = all.2;
        has_sections = all.1.has_sections;
      };
    }

-- none is named of a stream of another table
pub names_other : (given : LoadSettings) (first : Image) (text piece : List ℕ) (p : Paused) (s : PlaceSet) (n : ℕ)
    (fresh r : Giver) (gave : RecordEvent) (t : RamTable) → Found p piece fresh r gave
    → NamesAt given first text p s n → whole_table r.progress ≡ Some t → t ≢ first.table → Names given first (text ++ piece) s n None
names_other given first text piece p s n fresh r gave t f at whole differ =
    let single = settings_of first given in
    let gives = (found_next given first.table text piece at.so_far p fresh r gave f at.pauses).gives in
    let has : HasTable single (text ++ piece) (Some t) = table_told single (text ++ piece) (with_given gave r.given.records at.so_far) r t gives whole in
    let reading : StreamReading = has.0 in
    let size : IsPageSize first.table.page_size = gives.is_page_size in
    let before : HasTable single text None =
    elim at.is_own [
      | inl none ↦ none
      | inr own ↦ absurd (differ (let both : Some t ≡ Some first.table = has.2
          ∙ table_longer given first.table text piece first.table size own reading has.1 in cc))
    ] in
    let told : HasTable single text (whole_table p.progress) = paused_table single text at.so_far p at.pauses in
    let none : whole_table p.progress ≡ None =
    told.2 ∙ ap (λ (x : StreamReading). x.table) (same_reading (for_table first.table given) text told.0 before.0 size told.1 before.1) ∙ sym before.2 in
    let both = none_before_table single text at.so_far (giver_at p) at.pauses none in
    let nothing : given_places first at.so_far ≡ [] =
    ap (λ (l : List (List PageRecord)). places_of (all_pages (map (pages_on first) l) ++ pages_on first at.so_far.open_section))
    both.0 ∙ ap (λ (l : List PageRecord). places_of (pages_on first l)) both.1 in
    record {
      has_named = record {
        reading = reading;
        is_reading = has.1;
        own = λ own. absurd (apart first reading own (t, sym has.2, differ));
        other = λ _. at.has_named ∙ ap (λ (l : List Place). record {
          table = first.table;
          marked = places_where first.table (has_place l);
        }) nothing ∙ sym (named_by-nil first.table);
      };
      at_pause = tt;
    }

-- how many pages no record named
pub missing_onto : (given : LoadSettings) (first : Image) (text : List ℕ) (s : PlaceSet) (n : ℕ) → HasNamedOnto given first text s
    → n ≡ length (places_where s.table (λ p. not (has_place s.marked p)))
    → HasMissingOnto given first text n
missing_onto given first text s n has count = record {
  reading = has.reading;
  is_reading = has.is_reading;
  own = λ own. count ∙ missing_is first.table (places_of (pages_of_all first has.reading.rounds has.is_reading.to.records)) s (has.own own);
  other = λ other. count ∙ missing_is first.table [] s (has.other other ∙ named_by-nil first.table);
}

-- and this much was given of any stream
pub found_on_some : (given : LoadSettings) (fed : ℕ) (table : RamTable) (piece : List ℕ) (p q : Paused) (n more : ℕ)
    (fresh r s : Giver) (gave : RecordEvent) (found : StreamState) → Found p piece fresh r gave
    → PausesSome given table p n fed → (whole_table r.progress ≡ None) ⊎ (whole_table r.progress ≡ Some table) → GivesAll gave r n found s more
    → ((single : Settings) (text : List ℕ) (so_far : GivenSoFar) → Gives single text so_far s → PausesAt single text so_far q)
    → PausesSome given table q more (fed + length piece)
found_on_some given fed table piece p q n more fresh r s gave found f some own gives pauses =
    let next = found_puts given table some.text piece some.so_far p fresh r gave n f some.pauses own some.has_sections in
    let all = gives given table (some.text ++ piece) some.so_far next in
    record {
      text = some.text ++ piece;
      has_fed = ap (λ (k : ℕ). k + length piece) some.has_fed ∙ sym (length-append some.text piece);
      so_far = all.0;
      pauses = pauses (settings_for table given) (some.text ++ piece) all.0 all.1.gives;
      is_own = own_text given table (some.text ++ piece) some.so_far gave r next.gave_next f.there own;
      has_sections = all.1.has_sections;
    }

-- what some stream says, all of which was given
pub found_none_left : (given : LoadSettings) (fed : ℕ) (table : RamTable) (piece : List ℕ) (p : Paused) (n more : ℕ)
    (fresh r s : Giver) (gave : RecordEvent) (found : StreamState) → Found p piece fresh r gave
    → PausesSome given table p n fed → (whole_table r.progress ≡ None) ⊎ (whole_table r.progress ≡ Some table)
    → GivesAll gave r n found s more → HasNoneLeft found s
found_none_left given fed table piece p n more fresh r s gave found f some own gives =
    let next = found_puts given table some.text piece some.so_far p fresh r gave n f some.pauses own some.has_sections in
    (gives given table (some.text ++ piece) some.so_far next).1.has_none_left

-- ---- a call

-- a pause of some stream of this table, for given settings, is one for some settings
pub some_each : (given : LoadSettings) (fed : ℕ) (t table : RamTable) (n : ℕ) (o : Option Paused) → t ≡ table
    → IfSome o (λ p. PausesSome given t p n fed) → IfSome o (λ p. (l : LoadSettings) × PausesSome l table p n fed)
some_each given fed t table n None same h = tt
some_each given fed t table n (Some p) same h = (given, subst (λ (x : RamTable). PausesSome given x p n fed) same h)

-- a load whose memory has all records of a piece, and whose set has their places, loads the
-- stream with the piece
pub in_place_on : (memory new : Image) (given : LoadSettings) (first : Image) (s : LoadInPlace)
    (text piece : List ℕ) (pause : Option Paused) (found : LoadState) (named : PlaceSet) (n : ℕ) → LoadsInPlace memory given first s text false
    → StandsOnto given first (text ++ piece) new n pause found → Names given first (text ++ piece) named n pause
    → LoadsInPlace new given first (load_in_place pause found s.table named n (s.fed + length piece) s.ended) (text ++ piece) false
in_place_on memory new given first s text piece pause found named n loads stands names = record {
  is_table = loads.is_table;
  is_image = loads.is_image;
  same_table = loads.same_table;
  has_fed = ap (λ (k : ℕ). k + length piece) loads.has_fed ∙ sym (length-append text piece);
  has_ended = loads.has_ended;
  stands = stands;
  names = names;
}

-- a load without a pause loads the stream with any piece, and changes only its count of bytes
pub in_place_past : (memory : Image) (given : LoadSettings) (first : Image) (s : LoadInPlace) (text piece : List ℕ)
    → s.pause ≡ None → LoadsInPlace memory given first s text false
    → LoadsInPlace memory given first (load_in_place None s.state s.table s.named s.rounds (s.fed + length piece) s.ended) (text ++ piece) false
in_place_past memory given first s text piece none loads =
    let stands : StandsOnto given first text memory s.rounds None s.state =
    subst (λ (o : Option Paused). StandsOnto given first text memory s.rounds o s.state) none loads.stands in
    in_place_on memory memory given first s text piece None s.state s.named s.rounds loads
    (stands_more given first text piece memory s.rounds s.state loads.is_table.has_page_size stands)
    (record {
      has_named = named_more given first text piece memory s.rounds s.state s.named loads.is_table.has_page_size stands
          loads.names.has_named;
      at_pause = tt;
    })

-- ---- if memory was refused

-- a memory with the pages given so far, and so many sections, has the first of the records
pub some_so_far : (given : LoadSettings) (first : Image) (text : List ℕ) (so_far : GivenSoFar) (r : Giver) (m : Image) (n : ℕ)
    → Gives (settings_of first given) text so_far r → m ≡ with_round first (given_pages first so_far)
    → n ≡ length so_far.sections → HasSomeOnto given first text m n
some_so_far given first text so_far r m n gives memory count = record { so_far = so_far; reader = r; gives = gives; has_memory = memory; has_sections = count }

-- in the loop
pub puts_some : (first_gave gave : RecordEvent) (r0 r : Giver) (m0 m new : Image) (n0 n more_n : ℕ) → (IsEnd gave → ⊥)
    → more_n ≡ one_more gave n → new ≡ with_round m (pages_of_round r.given)
    → PutsSoFar first_gave r0 m0 n0 gave r m n → PutsSome first_gave r0 m0 n0 new more_n
puts_some first_gave gave r0 r m0 m new n0 n more_n more count is so = λ given first text so_far puts before.
    let was = so given first text so_far puts before in
    some_so_far given first text (with_given gave r.given.records was.0) r new more_n was.1.gave_next.gives
    (memory_more first was.0 gave r.given m new more was.1.gave_next.is_size was.2 is)
    (count ∙ ap (one_more gave) was.1.has_sections ∙ count_more gave r.given.records was.0)

-- before the table
pub some_first : (given : LoadSettings) (first : Image) (text piece : List ℕ) (p : Paused) (r : Giver) (m : Image) (n : ℕ)
    → ((single : Settings) (text : List ℕ) (so_far : GivenSoFar) → PausesAt single text so_far p
    → Gives single (text ++ piece) so_far r) → PausesOnto given first text p m n
    → HasSomeOnto given first (text ++ piece) m n
some_first given first text piece p r m n resumed at =
    some_so_far given first (text ++ piece) at.so_far r m n (resumed (settings_of first given) text at.so_far at.pauses) at.has_memory at.has_sections

-- after the table
pub some_put : (given : LoadSettings) (first : Image) (text piece : List ℕ) (p : Paused) (m new : Image) (n more : ℕ)
    (fresh r : Giver) (gave : RecordEvent) → Found p piece fresh r gave
    → PausesOnto given first text p m n → (whole_table r.progress ≡ None) ⊎ (whole_table r.progress ≡ Some first.table)
    → PutsSome gave r m n new more → HasSomeOnto given first (text ++ piece) new more
some_put given first text piece p m new n more fresh r gave f at own puts =
    puts given first (text ++ piece) at.so_far
    (found_puts given first.table text piece at.so_far p fresh r gave n f at.pauses own at.has_sections) at.has_memory

-- and where all was put
pub some_all : (given : LoadSettings) (first : Image) (text piece : List ℕ) (p : Paused) (m new : Image) (n more : ℕ)
    (fresh r s : Giver) (gave : RecordEvent) (found : StreamState) → Found p piece fresh r gave
    → PausesOnto given first text p m n → (whole_table r.progress ≡ None) ⊎ (whole_table r.progress ≡ Some first.table)
    → PutsAll gave r m n found s new more → HasSomeOnto given first (text ++ piece) new more
some_all given first text piece p m new n more fresh r s gave found f at own puts =
    let all = found_all given first text piece p m new n more fresh r s gave found f at own puts in
    some_so_far given first (text ++ piece) all.0 s new more all.1.gives all.2 all.1.has_sections

-- a stream that is longer
some_longer : (given : LoadSettings) (first : Image) (text piece : List ℕ) (m : Image) (n : ℕ) → HasSomeOnto given first text m n
    → HasSomeOnto given first (text ++ piece) m n
some_longer given first text piece m n has =
    let g = has.gives in record {
      so_far = has.so_far;
      reader = record { progress = has.reader.progress; rest = has.reader.rest ++ piece; found = None; given = has.reader.given; fed = length (text ++ piece) };
      gives = record {
        is_single = g.is_single;
        is_page_size = g.is_page_size;
        front = g.front;
        has_text = ap (λ (x : List ℕ). x ++ piece) g.has_text ∙ append_assoc g.front has.reader.rest piece;
        leads = g.leads;
        ends = tt;
        has_fed = λ short. refl;
      };
      has_memory = has.has_memory;
      has_sections = has.has_sections;
    }

-- if memory is refused within a piece, and the memory has the first of its records, the load has
-- failed for good on the stream with the piece
pub lacks_now : (memory new : Image) (given : LoadSettings) (first : Image) (s : LoadInPlace)
    (text piece : List ℕ) (named : PlaceSet) (n : ℕ) → LoadsInPlace memory given first s text false → HasSomeOnto given first (text ++ piece) new n
    → LacksMemory new given first (load_in_place None load_state.NoMemory s.table named n (s.fed + length piece) s.ended) (text ++ piece) false
lacks_now memory new given first s text piece named n loads some = record {
  is_table = loads.is_table;
  is_image = loads.is_image;
  same_table = loads.same_table;
  has_fed = ap (λ (k : ℕ). k + length piece) loads.has_fed ∙ sym (length-append text piece);
  has_ended = loads.has_ended;
  has_some = some;
  has_no_pause = refl;
  has_failed = refl;
}

-- a load that has failed for want of memory has failed on the stream with any piece, too
pub lacks_more : (memory : Image) (given : LoadSettings) (first : Image) (s : LoadInPlace) (text piece : List ℕ) → LacksMemory memory given first s text false
    → LacksMemory memory given first (load_in_place None s.state s.table s.named s.rounds (s.fed + length piece) s.ended) (text ++ piece) false
lacks_more memory given first s text piece lacks = record {
  is_table = lacks.is_table;
  is_image = lacks.is_image;
  same_table = lacks.same_table;
  has_fed = ap (λ (k : ℕ). k + length piece) lacks.has_fed ∙ sym (length-append text piece);
  has_ended = lacks.has_ended;
  has_some = some_longer given first text piece memory s.rounds lacks.has_some;
  has_no_pause = refl;
  has_failed = lacks.has_failed;
}

-- ---- laws

-- if no record is of a place
last_none : (first : Image) (p : Place) (records : List PageRecord) → All (λ r. r.place ≢ p) records → last_at p (pages_on first records) ≡ None
last_none first p [] all = last_at-nil p
last_none first p (r ∷ records) all =
    let head : r.place ≢ p = all 0 r (omega arith) in
    let tail : All (λ r. r.place ≢ p) records = λ i d lt. all (suc i) d (omega (arith, lt)) in
    last_at-cons p (page_of first.table.page_size r) (pages_on first records)
    ∙ ap (λ (o : Option Page). option_or o (cond (place_eq r.place p) (Some (page_of first.table.page_size r)) None)) (last_none first p records tail)
    ∙ elim (cases_Bool (place_eq r.place p)) [
      | inl t ↦ absurd (head (place_eq-true r.place p t))
      | inr f ↦ cond-false (place_eq r.place p) (Some (page_of first.table.page_size r)) None f
    ]

-- a place without a record in the open section holds what the complete sections left
pub other_places : InPlaceKeepsOtherPlaces
other_places given first text memory sections has p own is none =
    let whole : Image = with_rounds first (map (pages_on first) has.reading.rounds) in
    let records : List PageRecord = has.is_reading.to.records in
    ap (λ (m : Image). content_at m p) (has.own own).0
    ∙ content_at-image_of first.table (λ (q : Place). option_map_or (λ (x : Page). x.content) (last_at q (pages_on first records)) (content_at whole q)) p is
    ∙ ap (λ (o : Option Page). option_map_or (λ (x : Page). x.content) o (content_at whole p)) (last_none first p records none)

-- if the verdict is Ok, the memory has the stream's complete sections, and nothing else
pub closed_by_sections : InPlaceOkIsWhole
closed_by_sections given first text memory sections table image has v =
    let size : IsPageSize first.table.page_size = table.has_page_size in
    let same : v.reading ≡ has.reading = same_reading (for_table first.table given) text v.reading has.reading size v.is_reading has.is_reading in
    record {
      reading = has.reading;
      is_reading = has.is_reading;
      same_table = has.same_table;
      own = λ own.
          let before : List Page = all_pages (map (pages_on first) has.reading.rounds) in
          let told : Ok _ ≡ verdict_of (length v.reading.rounds) v.reading.state = v.own (subst (λ (x : StreamReading). IsOfOwnTable first x) (sym same) own) in
          let closed : has.reading.state ≡ Closed = ap (λ (x : StreamReading). x.state) (sym same) ∙ ok_closed (length v.reading.rounds) v.reading.state told in
          let ends : Ends has.is_reading.to has.is_reading.rest Closed =
          subst (λ (s : StreamState). Ends has.is_reading.to has.is_reading.rest s) closed has.is_reading.reads.ends in
          let none : has.is_reading.to.records ≡ [] =
          closed_is_empty given.frame Single first.table.page_size given.limit given.waiting has.is_reading.reads.front
          has.is_reading.to has.is_reading.rest refl has.is_reading.reads.leads ends in (
            (has.own own).0
                ∙ ap (λ (l : List PageRecord). with_round (with_round first before) (pages_on first l)) none
                ∙ put_after first before []
                ∙ ap (with_round first) (append-nil before),
            (has.own own).1,
          );
      other = has.other;
    }
  where
    ok_closed : (n : ℕ) (s : StreamState) → Ok _ ≡ verdict_of n s → s ≡ Closed
    ok_closed n Closed e = refl
    ok_closed n Reading e = absurd cc
    ok_closed n (Bad f) e = absurd cc

-- a stream that was sent is loaded in place as it was sent
pub sent_in_place : SentIsLoadedInPlace
sent_in_place limit first rounds memory sections verdict is image room all has v =
    let load : LoadSettings = ram_settings first.table.page_size limit in
    let text : List ℕ = single first.table rounds in
    let ok : verdict ≡ Ok _ = sent_verdict limit first rounds verdict is room all v in
    let both = sent_sections limit first rounds memory sections is room all
    (closed_by_sections load first text memory sections is image has (subst (λ (r : Result ⊤ LoadFault). HasVerdictOnto load first text r) ok v)) in
    (both.0, both.1, ok)
