-- The sections of a stream that are applied to a memory, one after another, and the answer that
-- they make.
use Rattle.std.proofs.Common.{ℕ, ◌≡◌, ◌+◌, ◌<◌, ◌≤◌, Bool, true, false, List, [], ◌∷◌, ◌++◌, length, map, take, refl, sym, ap, ◌∙◌, inl, inr, Option, Some}
use Rattle.std.proofs.Common.{None, arith, subst, not}
use Rattle.std.specs.Prelude.{◌⊎◌, ⊤, IfSome, IfNone, IfOk, IsOk, Result, Ok, Err, slice_index_or}
use Rattle.std.specs.List.{All}
use Rattle.std.proofs.lemmas.List.{map-append, take_more, take_all, append-nil, length-append, length-map}
use Rattle.std.proofs.lemmas.Bool.{cases_lt}
use Rattle.std.proofs.lemmas.List.Concat.{flat_map-append}
use Rattle.mig_mem.specs.PageSize.{IsPageSize}
use Rattle.mig_mem.specs.RamTable.{RamTable, IsTable}
use Rattle.mig_mem.specs.declared.place.Place.{Place}
use Rattle.mig_mem.specs.Place.{IsPlace, has_place}
use Rattle.mig_mem.specs.PlaceSet.{PlaceSet, places_where}
use Rattle.std.specs.Option.{option_map_or, IsSomeAnd}
use Rattle.std.proofs.lemmas.List.Elements.{All-head, All-tail}
use Rattle.mig_mem.specs.Image.{Page, Image, image_of, zero_page, zero_image}
use Rattle.mig_mem.specs.Round.{after, with_round, with_rounds, last_at, all_pages, IsRound}
use Rattle.mig_mem.proofs.Rounds.{after-nil, all_pages-push, onto-push, onto-zeros}
use Rattle.mig_stream.specs.declared.item.Mode.TheVariants.{Single}
use Rattle.mig_stream.specs.declared.item.StreamState.{StreamState}
use Rattle.mig_stream.specs.declared.item.StreamState.TheVariants as state
use Rattle.mig_stream.specs.declared.item.StreamState.TheVariants.{Closed}
use Rattle.mig_stream.specs.PageRecord.{PageRecord, page_of}
use Rattle.mig_stream.specs.Reading.{settings, StreamReading, IsReading, state_at}
use Rattle.mig_stream.specs.Progress.{StreamProgress, whole_table}
use Rattle.mig_stream.specs.Reader.{Reader, Stands, with_taken, HasTable, HasRound, HasState, HasClosedAt, IsValidUpTo}
use Rattle.mig_stream.specs.Round.{RoundOfRecords}
use Rattle.mig_stream.specs.Text.{IsText, total_bytes}
use Rattle.mig_stream.specs.Written.{written_record, single}
use Rattle.mig_stream.specs.Law.{closed}
use Rattle.mig_stream.proofs.Exists.{one_reading_law}
use Rattle.mig_stream.proofs.Limits.{limits_law}
use Rattle.mig_stream.proofs.SpelledText.{spelled_law}
use Rattle.mig_stream.proofs.WrittenText.{written_single}
use Rattle.mig_stream.proofs.WrittenPages.{written_pages}
use Rattle.mig_assemble.specs.Judging.{places_of}
use Rattle.mig_assemble.specs.NamedPlaces.{places_in, named_by, left_out, missing_of, with_places}
use Rattle.mig_assemble.specs.Target.{LoadTarget, new_target, pages_of_round, FitsTable}
use Rattle.mig_assemble.proofs.Naming.{named_by-nil, named_by-push, missing_is}
use Rattle.mig_load_types.specs.Settings.{single_of, ram_settings}
use Rattle.mig_load_types.specs.declared.settings.LoadSettings.{LoadSettings}
use Rattle.mig_load_types.specs.declared.loaded.Loaded.{Loaded}
use Rattle.mig_load_types.specs.declared.fault.LoadFault.{LoadFault}
use Rattle.mig_single_load.specs.SingleLoad.{memory_after, named_after, missing_after, verdict_of, IsSingleAnswer, IsSingleWithoutMemory, HasLoadedRounds}
use Rattle.mig_single_load.specs.SingleLoad.{unloaded}
use Rattle.mig_single_load.specs.Loader.{Loader, loader, memory_of, sections_loaded, HasAllSections, Waits, put_so_far, Loads, HasVerdict, Judges, TellsMissing}
use Rattle.mig_single_load.specs.Loader.{Answers, HasFirst, HasPutSections, HasPutAllSections, WasFed}

-- the pages of some sections
abbrev pub pages_in : ℕ → List (List PageRecord) → List (List Page)
pages_in page_size sections = map (map (page_of page_size)) sections

-- ---- one reading

-- a single stream has one reading alone
pub same_reading : (given : LoadSettings) (text : List ℕ) (a b : StreamReading) → IsPageSize given.page_size
    → IsReading (single_of given) text a → IsReading (single_of given) text b → a ≡ b
same_reading given text a b size is_a is_b =
    let one = one_reading_law (single_of given) text size in
    one.2 a is_a ∙ sym (one.2 b is_b)

-- ---- the loop

-- before the first section
pub put_new : (given : LoadSettings) (text : List ℕ) (ended : Bool) (r : Reader) (table : RamTable) (t : LoadTarget) → WasFed given (loader r None) text ended
    → HasTable (single_of given) text (Some table) → t ≡ new_target table → HasPutSections given (zero_image table) text ended r t
put_new given text ended r table t fed has is = rw is record {
  is_page_size = fed.is_page_size;
  stands = fed.stands;
  has_first = record { has_table = has; has_memory = λ reading _. sym (after-nil table) ∙ onto-zeros table []; has_named = λ reading _. named_by-nil table };
}

-- the page size of the table, and that a round that is still to come isn't the 2^63rd
pub size_is : (given : LoadSettings) (text : List ℕ) (table : RamTable) → IsPageSize given.page_size
    → HasTable (single_of given) text (Some table) → table.page_size ≡ given.page_size
size_is given text table size has = (limits_law (single_of given) text has.0 size has.1).has_page_size table (sym has.2)

-- a stream has no more rounds than bytes
pub is_few : (given : LoadSettings) (i : ℕ) (text : List ℕ) (records : List PageRecord) → IsPageSize given.page_size
    → HasRound (single_of given) text i records → i < length text
is_few given i text records size has =
    let few = (limits_law (single_of given) text has.0 size has.1).has_few in
    let lt = has.2 in
    omega (arith, few, lt)

-- the memory keeps its table
pub put_table : (given : LoadSettings) (first : Image) (text : List ℕ) (t : LoadTarget) → HasFirst given first text t → t.memory.table ≡ first.table
put_table given first text t has = ap (λ (m : Image). m.table) (has.has_memory has.has_table.0 has.has_table.1)

-- a round whose pages lie in the first table fits the load's memory
pub fits_is : (given : LoadSettings) (first : Image) (text : List
    ℕ) (ended : Bool) (r : Reader) (t : LoadTarget) (round : RoundOfRecords) → HasPutSections given first text ended r t
    → round.page_size ≡ given.page_size → All (λ x. IsPlace first.table x.place) round.records → FitsTable t.memory.table round
fits_is given first text ended r t round put is places =
    rw (put_table given first text t put.has_first) (record {
      has_page_size = is ∙ sym (size_is given text first.table put.is_page_size put.has_first.has_table);
      has_places = places;
    })

-- one section more
pub put_more : (given : LoadSettings) (first : Image) (text : List ℕ) (ended : Bool) (r s : Reader)
    (t u : LoadTarget) (round : RoundOfRecords) → HasPutSections given first text ended r t
    → round.page_size ≡ given.page_size → HasRound (single_of given) text t.rounds round.records
    → Stands (single_of given) (put_so_far text ended (t.rounds + 1)) s
    → u.memory ≡ with_round t.memory (pages_of_round round) → u.named ≡ with_places t.named (places_of (pages_of_round round)) → u.rounds ≡ t.rounds + 1
    → HasPutSections given first text ended s u
put_more given first text ended r s t u round put is_size is_round stands memory named rounds =
    let has : HasFirst given first text t = put.has_first in
    let size : IsPageSize given.page_size = put.is_page_size in
    record {
      is_page_size = size;
      stands = subst (λ n. Stands (single_of given) (put_so_far text ended n) s) (sym rounds) stands;
      has_first = record {
        has_table = has.has_table;
        has_memory = λ reading is.
            memory
            ∙ ap (λ (m : Image). with_round m (pages_of_round round)) (has.has_memory reading is)
            ∙ ap (λ (n : ℕ). with_round (with_rounds first (pages_in given.page_size (take t.rounds reading.rounds))) (map (page_of n) round.records)) is_size
            ∙ sym (onto-push first (pages_in given.page_size (take t.rounds reading.rounds)) (map (page_of given.page_size) round.records))
            ∙ ap (λ (l : List (List Page)). with_rounds first l) (sections_more reading is);
        has_named = λ reading is.
            named
            ∙ ap (λ (n : ℕ). with_places t.named (places_of (map (page_of n) round.records))) is_size
            ∙ named_by-push first.table (pages_in given.page_size (take t.rounds reading.rounds))
            (map (page_of given.page_size) round.records) t.named (has.has_named reading is)
            ∙ ap (λ (l : List (List Page)). named_by first.table l) (sections_more reading is);
      };
    }
  where
    -- the sections before it, and it, are one section more of the stream
    sections_more : (reading : StreamReading) → IsReading (single_of given) text reading
        → pages_in given.page_size (take t.rounds reading.rounds) ++ map
        (page_of given.page_size) round.records ∷ [] ≡ pages_in given.page_size (take u.rounds reading.rounds)
    sections_more reading is =
        let one : is_round.0 ≡ reading = same_reading given text is_round.0 reading put.is_page_size is_round.1 is in
        let few : t.rounds < length reading.rounds = subst (λ (x : StreamReading). t.rounds < length x.rounds) one is_round.2 in
        let here : slice_index_or reading.rounds t.rounds [] ≡ round.records =
        subst (λ (x : StreamReading). slice_index_or x.rounds t.rounds [] ≡ round.records) one is_round.3 in
        let before : List (List PageRecord) = take t.rounds reading.rounds in
        let more : before ++ round.records ∷ [] ≡ take (t.rounds + 1) reading.rounds =
        ap (λ (x : List PageRecord). before ++ x ∷ []) (sym here) ∙ sym (take_more reading.rounds t.rounds [] few) in
        sym (map-append (map (page_of given.page_size)) before (round.records ∷ []))
        ∙ ap (λ (l : List (List PageRecord)). pages_in given.page_size l) more
        ∙ ap (λ (n : ℕ). pages_in given.page_size (take n reading.rounds)) (sym rounds)

-- no section is left
pub not_more : (given : LoadSettings) (text : List ℕ) (reading : StreamReading) (n : ℕ) → IsReading (single_of given) text reading
    → ((i : ℕ) (round : List PageRecord) → HasRound (single_of given) text i round → i < n) → length reading.rounds ≤ n
not_more given text reading n is last = elim (cases_lt n (length reading.rounds)) [
  | inl lt ↦ let bad = last n (slice_index_or reading.rounds n []) (reading, is, lt, refl) in absurd (omega (arith, bad))
  | inr le ↦ le
]

-- those that were given are the stream's
pub are_given : (given : LoadSettings) (text : List ℕ) (ended : Bool) (r : Reader) (n : ℕ) (reading : StreamReading)
    → IsPageSize given.page_size → IsReading (single_of given) text reading
    → Stands (single_of given) (put_so_far text ended n) r → n ≤ length reading.rounds
are_given given text ended r n reading size is stands =
    let to : StreamProgress = with_taken stands.rounds r.progress in
    let other : StreamReading = record { table = whole_table to; rounds = to.rounds; state = r.found } in
    let is_other : IsReading (single_of given) text other = record { to = to; rest = stands.rest; reads = stands.reads; has_table = refl; has_rounds = refl } in
    let one : other ≡ reading = same_reading given text other reading size is_other is in
    let len : length (stands.rounds ++ r.progress.rounds) ≡ length reading.rounds = ap (λ (x : StreamReading). length x.rounds) one in
    let both = length-append stands.rounds r.progress.rounds in
    let taken = stands.has_taken in
    omega (arith, len, both, taken)

-- ---- all sections

-- after the loop
pub all_put : (given : LoadSettings) (first : Image) (text : List ℕ) (ended : Bool) (r : Reader) (t : LoadTarget) → HasPutSections given first text ended r t
    → ((i : ℕ) (round : List PageRecord) → HasRound (single_of given) text i round → i < t.rounds) → HasPutAllSections given first text t
all_put given first text ended r t put last =
    let has : HasFirst given first text t = put.has_first in
    let reading : StreamReading = has.has_table.0 in
    let is_reading = has.has_table.1 in
    let sections : List (List PageRecord) = reading.rounds in
    let most : length sections ≤ t.rounds = not_more given text reading t.rounds is_reading last in
    let least : t.rounds ≤ length sections = are_given given text ended r t.rounds reading put.is_page_size is_reading put.stands in
    record {
      reading = reading;
      is_reading = is_reading;
      has_memory = has.has_memory reading is_reading
          ∙ ap (λ (l : List (List PageRecord)). with_rounds first (pages_in given.page_size l)) (take_all t.rounds sections most);
      has_named = has.has_named reading is_reading
          ∙ ap (λ (l : List (List PageRecord)). named_by first.table (pages_in given.page_size l)) (take_all t.rounds sections most);
      has_rounds = omega (arith, most, least);
    }

-- a loader's memory began with zeros
pub put_of : (given : LoadSettings) (text : List ℕ) (ended : Bool) (r : Reader) (t : LoadTarget) → WasFed given (loader r (Some t)) text ended
    → HasPutSections given (zero_image t.memory.table) text ended r t
put_of given text ended r t fed = record { is_page_size = fed.is_page_size; stands = fed.stands; has_first = fed.has_first }

-- all that was put into zeros
pub loads_put : (given : LoadSettings) (text : List ℕ) (ended : Bool) (r : Reader) (table : RamTable) (t : LoadTarget)
    → HasPutSections given (zero_image table) text ended r t
    → HasPutAllSections given (zero_image table) text t → Loads given (loader r (Some t)) text ended × HasAllSections given (loader r (Some t)) text
loads_put given text ended r table t put all =
    let reading : StreamReading = all.reading in
    let one : put.has_first.has_table.0 ≡ reading =
    same_reading given text put.has_first.has_table.0 reading put.is_page_size put.has_first.has_table.1 all.is_reading in
    let is_table : Some table ≡ reading.table = put.has_first.has_table.2 ∙ ap (λ (x : StreamReading). x.table) one in
    let has : HasAllSections given (loader r (Some t)) text = record {
      reading = reading;
      is_reading = all.is_reading;
      has_memory = ap (λ (m : Image). Some m) (all.has_memory ∙ sym (onto-zeros table (pages_in given.page_size reading.rounds)))
          ∙ ap (λ (x : Option RamTable). memory_after given.page_size x reading.rounds) is_table;
      has_named = ap (λ (n : PlaceSet). Some n) all.has_named ∙ ap (λ (x : Option RamTable). named_after given.page_size x reading.rounds) is_table;
      has_rounds = all.has_rounds;
    } in
    (record { is_page_size = put.is_page_size; stands = put.stands; has_sections = inl has }, has)

-- a stream without a table has no section
pub none_there : (given : LoadSettings) (text : List ℕ) (r : Reader) → IsPageSize given.page_size
    → HasTable (single_of given) text None → HasAllSections given (loader r None) text
none_there given text r size has =
    let reading : StreamReading = has.0 in
    let none : reading.rounds ≡ [] = (limits_law (single_of given) text reading size has.1).has_table_first (sym has.2) in
    record {
      reading = reading;
      is_reading = has.1;
      has_memory = ap (λ (x : Option RamTable). memory_after given.page_size x reading.rounds) has.2;
      has_named = ap (λ (x : Option RamTable). named_after given.page_size x reading.rounds) has.2;
      has_rounds = sym (ap (λ (x : List (List PageRecord)). length x) none);
    }

-- a loader that was fed a stream, and has all its sections in memory, loads that stream
pub loads_all : (given : LoadSettings) (l : Loader) (text : List ℕ) (ended : Bool) → WasFed given l text ended
    → HasAllSections given l text → Loads given l text ended × HasAllSections given l text
loads_all given l text ended fed all = (record { is_page_size = fed.is_page_size; stands = fed.stands; has_sections = inl all }, all)

-- ---- what a loader represents

-- a memory after complete sections is one of the stream's table
table_there : (p : ℕ) (m : Image) (o : Option RamTable) (sections : List (List PageRecord)) → Some m ≡ memory_after p o sections
    → (Some m.table ≡ o) × (m ≡ after m.table (pages_in p sections))
table_there p m None sections e = absurd cc
table_there p m (Some table) sections e =
    let is : m ≡ after table (pages_in p sections) = cc in
    let same : m.table ≡ table = ap (λ (x : Image). x.table) is in
    (ap (λ (x : RamTable). Some x) same, is ∙ ap (λ (x : RamTable). after x (pages_in p sections)) (sym same))

first_of_all : (given : LoadSettings) (text : List ℕ) (r : Reader) (t : LoadTarget) → IsPageSize given.page_size → HasAllSections given (loader r (Some t)) text
    → HasFirst given (zero_image t.memory.table) text t
first_of_all given text r t size all =
    let there = table_there given.page_size t.memory all.reading.table all.reading.rounds all.has_memory in
    record {
      has_table = (all.reading, all.is_reading, there.0);
      has_memory = λ reading is.
          let one : all.reading ≡ reading = same_reading given text all.reading reading size all.is_reading is in
          let most : length reading.rounds ≤ t.rounds = subst (λ (x : StreamReading). length x.rounds ≤ t.rounds) one (omega (arith, all.has_rounds)) in
          there.1 ∙ ap (λ (x : StreamReading). after t.memory.table (pages_in given.page_size x.rounds)) one
          ∙ ap (λ (l : List (List PageRecord)). after t.memory.table (pages_in given.page_size l)) (sym (take_all t.rounds reading.rounds most))
          ∙ onto-zeros t.memory.table (pages_in given.page_size (take t.rounds reading.rounds));
      has_named = λ reading is.
          let one : all.reading ≡ reading = same_reading given text all.reading reading size all.is_reading is in
          let most : length reading.rounds ≤ t.rounds = subst (λ (x : StreamReading). length x.rounds ≤ t.rounds) one (omega (arith, all.has_rounds)) in
          let names : t.named ≡ named_by t.memory.table (pages_in given.page_size all.reading.rounds) =
          let e : Some t.named ≡ Some (named_by t.memory.table (pages_in given.page_size all.reading.rounds)) =
          all.has_named ∙ ap (λ (o : Option RamTable). named_after given.page_size o all.reading.rounds) (sym there.0) in cc in
          names ∙ ap (λ (x : StreamReading). named_by t.memory.table (pages_in given.page_size x.rounds)) one
          ∙ ap (λ (l : List (List PageRecord)). named_by t.memory.table (pages_in given.page_size l)) (sym (take_all t.rounds reading.rounds most));
    }

-- a loader that represents a stream was fed it
pub fed_of : (given : LoadSettings) (r : Reader) (o : Option LoadTarget) (text : List ℕ) (ended : Bool)
    → Loads given (loader r o) text ended → WasFed given (loader r o) text ended
fed_of given r None text ended loads = record { is_page_size = loads.is_page_size; stands = loads.stands; has_first = tt }
fed_of given r (Some t) text ended loads = record {
  is_page_size = loads.is_page_size;
  stands = loads.stands;
  has_first = elim loads.has_sections [
    | inl all ↦ first_of_all given text r t loads.is_page_size all
    | inr waits ↦ absurd (let none = waits.has_no_memory in cc)
  ];
}

-- if there is a memory no section waits
pub all_there : (given : LoadSettings) (r : Reader) (o : Option LoadTarget) (t : LoadTarget) (text : List ℕ) (ended : Bool)
    → o ≡ Some t → Loads given (loader r o) text ended
    → HasAllSections given (loader r o) text
all_there given r o t text ended is loads = elim loads.has_sections [
  | inl all ↦ all
  | inr waits ↦ absurd (let none = waits.has_no_memory in cc)
]

-- ---- the answer

-- how a stream stands, as a verdict, whether or not it has ended
pub verdict_over : (ended : Bool) (n : ℕ) (s : StreamState) → verdict_of n (state_at ended s) ≡ verdict_of n s
verdict_over false n s = refl
verdict_over true n state.Reading = refl
verdict_over true n Closed = refl
verdict_over true n (state.Bad f) = refl

-- of a loader that has all sections
pub judged : (given : LoadSettings) (l : Loader) (text : List ℕ) (ended : Bool) (state : StreamState) (v : Result ⊤ LoadFault)
    → IsPageSize given.page_size → HasAllSections given l text
    → HasState (single_of given) text ended state → v ≡ verdict_of (sections_loaded l) state → Judges given l text v
judged given l text ended state v size all told is =
    let one : told.0 ≡ all.reading = same_reading given text told.0 all.reading size told.1 all.is_reading in
    let said : state ≡ state_at ended all.reading.state = told.2 ∙ ap (λ (x : StreamReading). state_at ended x.state) one in
    inl (
      all,
      record {
        reading = all.reading;
        is_reading = all.is_reading;
        is_verdict = is ∙ ap (verdict_of (sections_loaded l)) said ∙ verdict_over ended (sections_loaded l) all.reading.state
            ∙ ap (λ (n : ℕ). verdict_of n all.reading.state) all.has_rounds;
      },
    )

-- ---- how many pages it lacks

-- the pages that the set of a loader with a memory lacks are those that the stream's sections don't
-- name
pub lacks_missing : (given : LoadSettings) (r : Reader) (t : LoadTarget) (text : List ℕ) (n : ℕ) (all : HasAllSections given (loader r (Some t)) text)
    → n ≡ length (places_where t.named.table (λ p. not (has_place t.named.marked p)))
    → Some n ≡ missing_after given.page_size all.reading.table all.reading.rounds
lacks_missing given r t text n all is =
    let there = table_there given.page_size t.memory all.reading.table all.reading.rounds all.has_memory in
    let names : t.named ≡ named_by t.memory.table (pages_in given.page_size all.reading.rounds) =
    let e : Some t.named ≡ Some (named_by t.memory.table (pages_in given.page_size all.reading.rounds)) =
    all.has_named ∙ ap (λ (o : Option RamTable). named_after given.page_size o all.reading.rounds) (sym there.0) in cc in
    ap (λ (m : ℕ). Some m) (is ∙ missing_is t.memory.table (places_in (pages_in given.page_size all.reading.rounds)) t.named names)
    ∙ ap (λ (o : Option RamTable). missing_after given.page_size o all.reading.rounds) there.0

-- so a loader with a memory counts them
pub counts_missing : (given : LoadSettings) (r : Reader) (t : LoadTarget) (text : List ℕ) (n : ℕ) → HasAllSections given (loader r (Some t)) text
    → n ≡ length (places_where t.named.table (λ p. not (has_place t.named.marked p))) → TellsMissing given (loader r (Some t)) text (Some n)
counts_missing given r t text n all is =
    inl (all, record { reading = all.reading; is_reading = all.is_reading; is_count = lacks_missing given r t text n all is })

-- without a memory
pub none_missing : (given : LoadSettings) (r : Reader) (text : List ℕ)
    → HasAllSections given (loader r None) text ⊎ Waits given (loader r None) text → TellsMissing given (loader r None) text None
none_missing given r text (inr waits) = inr (waits, refl)
none_missing given r text (inl all) = inl (
  all,
  record {
    reading = all.reading;
    is_reading = all.is_reading;
    is_count = ap (λ (o : Option RamTable). missing_after given.page_size o all.reading.rounds) (no_table all.reading.table all.has_memory);
  },
)
  where
    no_table : (o : Option RamTable) → None ≡ memory_after given.page_size o all.reading.rounds → None ≡ o
    no_table None e = refl
    no_table (Some table) e = absurd cc

-- ---- the answer of both

-- an answer of all sections is their memory, their count, the verdict, and what is known of the
-- stream
pub answered : {A : Type 0} (given : LoadSettings) (l : Loader) (text : List ℕ) (a : Loaded A) → IsPageSize given.page_size
    → (all : HasAllSections given l text)
    → a.memory ≡ memory_of l → a.rounds ≡ sections_loaded l → HasVerdict given text a.verdict
    → a.missing ≡ missing_after given.page_size all.reading.table all.reading.rounds
    → HasClosedAt (single_of given) text a.closed_at → IsSomeAnd a.valid_up_to (IsValidUpTo (single_of given) text) → Answers given l text a
answered given l text a size all memory rounds v missing closes valid =
    let one : v.reading ≡ all.reading = same_reading given text v.reading all.reading size v.is_reading all.is_reading in
    let count : a.rounds ≡ length all.reading.rounds = rounds ∙ all.has_rounds in
    inl (
      all,
      record {
        reading = all.reading;
        is_reading = all.is_reading;
        has_memory = memory ∙ all.has_memory;
        has_rounds = count;
        has_verdict = v.is_verdict ∙ ap (λ (x : StreamReading). verdict_of (length x.rounds) x.state) one
            ∙ ap (λ (n : ℕ). verdict_of n all.reading.state) (sym count);
        has_missing = missing;
        has_closed_at = closes;
        has_valid_up_to = valid;
      },
    )

-- the verdict of a loader with a memory is that on its stream
pub judged_there : (given : LoadSettings) (r : Reader) (o : Option LoadTarget) (t : LoadTarget) (text : List ℕ) (v : Result ⊤ LoadFault) → o ≡ Some t
    → Judges given (loader r o) text v → HasVerdict given text v
judged_there given r o t text v is (inl both) = both.1
judged_there given r o t text v is (inr both) = absurd (let none = both.0.has_no_memory in cc)

-- and so is that of a loader whose stream has no table
pub judged_without_table : (given : LoadSettings) (l : Loader) (text : List ℕ) (v : Result ⊤ LoadFault)
    → IsPageSize given.page_size → HasTable (single_of given) text None
    → Judges given l text v → HasVerdict given text v
judged_without_table given l text v size none (inl both) = both.1
judged_without_table given l text v size none (inr both) =
    let w : Waits given l text = both.0 in
    let one : none.0 ≡ w.has_table.0 = same_reading given text none.0 w.has_table.0 size none.1 w.has_table.1 in
    let is : None ≡ Some w.table = none.2 ∙ ap (λ (x : StreamReading). x.table) one ∙ sym w.has_table.2 in
    absurd cc

-- so is the answer of a loader with a memory
pub answered_there : {A : Type 0} (given : LoadSettings) (r : Reader) (o : Option LoadTarget) (t : LoadTarget) (text : List
    ℕ) (ended : Bool) (a : Loaded A) (n : ℕ) → o ≡ Some t
    → Loads given (loader r o) text ended → Judges given (loader r o) text a.verdict → a.memory ≡ Some t.memory → a.rounds ≡ t.rounds → a.missing ≡ Some n
    → n ≡ length (places_where t.named.table (λ p. not (has_place t.named.marked p))) → HasClosedAt (single_of given) text a.closed_at
    → IsSomeAnd a.valid_up_to (IsValidUpTo (single_of given) text) → Answers given (loader r o) text a
answered_there given r o t text ended a n is loads v memory rounds missing count closes valid =
    let all : HasAllSections given (loader r (Some t)) text =
    subst (λ x. HasAllSections given (loader r x) text) is (all_there given r o t text ended is loads) in
    subst (λ x. Answers given (loader r x) text a) (sym is)
    (answered given (loader r (Some t)) text a loads.is_page_size all memory rounds (judged_there given r o t text a.verdict is v)
    (missing ∙ lacks_missing given r t text n all count) closes valid)

-- and that of a loader whose stream has no table
pub answered_without_table : {A : Type 0} (given : LoadSettings) (r : Reader) (o : Option LoadTarget) (text : List ℕ) (a : Loaded
    A) → o ≡ None → IsPageSize given.page_size
    → HasTable (single_of given) text None → Judges given (loader r o) text a.verdict → a.memory ≡ None → a.rounds ≡ 0 → a.missing ≡ None
    → HasClosedAt (single_of given) text a.closed_at → IsSomeAnd a.valid_up_to (IsValidUpTo (single_of given) text) → Answers given (loader r o) text a
unfolding none_there
answered_without_table given r o text a is size has v memory rounds missing closes valid =
    let all : HasAllSections given (loader r None) text = none_there given text r size has in
    subst (λ x. Answers given (loader r x) text a) (sym is)
    (answered given (loader r None) text a size all memory rounds (judged_without_table given (loader r o) text a.verdict size has v)
    (missing ∙ ap (λ (t : Option RamTable). missing_after given.page_size t all.reading.rounds) has.2) closes valid)

-- if an allocation was refused before any section
pub none_put : {A : Type 0} (given : LoadSettings) (text : List ℕ) → IsPageSize given.page_size → IsSingleWithoutMemory given text (unloaded {A = A})
none_put given text size =
    let one = one_reading_law (single_of given) text size in record {
      reading = one.0;
      is_reading = one.1;
      has_verdict = refl;
      has_rounds = omega arith;
      has_memory = inr (refl, refl);
      has_no_more = (refl, refl, refl);
    }

-- what a loader answers is what a load answers
pub load_answers : {A : Type 0} (given : LoadSettings) (l : Loader) (text : List ℕ) (a : Loaded A) → IsPageSize given.page_size → Answers given l text a
    → IsSingleAnswer given text a ⊎ IsSingleWithoutMemory given text a
load_answers given l text a size (inl both) = inl both.1
load_answers given l text a size (inr both) = inr (rw both.1 (none_put given text size))

-- ---- the stream of a sender

-- START and END bring no page
pub empty_ends : (rounds : List (List Page)) → all_pages ([] ∷ rounds ++ [] ∷ []) ≡ all_pages rounds
empty_ends rounds = all_pages-push ([] ∷ rounds) [] ∙ append-nil (all_pages rounds)

-- the records of the rounds represent their pages
pub pages_sent : (table : RamTable) (rounds : List (List Page)) → All (IsRound table) rounds
    → pages_in table.page_size (map (map written_record) rounds) ≡ rounds
pages_sent table [] all = refl
pages_sent table (round ∷ rounds) all =
    ap (λ (x : List Page). x ∷ pages_in table.page_size (map (map written_record) rounds))
    (written_pages table round (All-head (IsRound table) round rounds all))
    ∙ ap (λ (x : List (List Page)). round ∷ x) (pages_sent table rounds (All-tail (IsRound table) round rounds all))

-- only the pages of the rounds matter
after_same : (table : RamTable) (a b : List (List Page)) → all_pages a ≡ all_pages b → after table a ≡ after table b
after_same table a b e = ap (λ (l : List Page). image_of table (λ p. option_map_or (λ (x : Page). x.content) (last_at p l) (zero_page table.page_size))) e

sections_sent : (table : RamTable) (rounds : List (List Page)) → All (IsRound table) rounds
    → after table (pages_in table.page_size ([] ∷ map (map written_record) rounds ++ [] ∷ [])) ≡ after table rounds
sections_sent table rounds all =
    let records : List (List PageRecord) = map (map written_record) rounds in
    ap (λ (l : List (List Page)). after table l) (map-append (map (page_of table.page_size)) ([] ∷ records) ([] ∷ []))
    ∙ ap (λ (l : List (List Page)). after table ([] ∷ l ++ [] ∷ [])) (pages_sent table rounds all)
    ∙ after_same table ([] ∷ rounds ++ [] ∷ []) rounds (empty_ends rounds)

-- a stream of rounds has two sections more than rounds
pub counted : (rounds : List (List Page)) → length ([] ∷ map (map written_record) rounds ++ [] ∷ []) ≡ length rounds + 2
counted rounds =
    let both = length-append ([] ∷ map (map written_record) rounds) ([] ∷ []) in
    let same = length-map rounds (map written_record) in
    omega (arith, both, same)

missing_sent : (table : RamTable) (rounds : List (List Page)) → All (IsRound table) rounds
    → missing_of table (pages_in table.page_size ([] ∷ map (map written_record) rounds ++ [] ∷ [])) ≡ missing_of table rounds
missing_sent table rounds all =
    let records : List (List PageRecord) = map (map written_record) rounds in
    ap (λ (l : List (List Page)). missing_of table l) (map-append (map (page_of table.page_size)) ([] ∷ records) ([] ∷ []))
    ∙ ap (λ (l : List (List Page)). missing_of table ([] ∷ l ++ [] ∷ [])) (pages_sent table rounds all)
    ∙ ap (λ (l : List Place). left_out table l) (flat_map-append places_of ([] ∷ rounds) ([] ∷ []) ∙ append-nil (places_in ([] ∷ rounds)))

-- a stream that reads as what a sender wrote is loaded completely
pub closed_answer_is : {A : Type 0} (given : LoadSettings) (text : List ℕ) (a : Loaded A) → IsPageSize given.page_size → IsSingleAnswer given text a
    → (table : RamTable) (rounds : List (List Page)) → table.page_size ≡ given.page_size → All (IsRound table) rounds
    → IsReading (single_of given) text (closed table ([] ∷ map (map written_record) rounds ++ [] ∷ [])) → HasLoadedRounds table rounds a
closed_answer_is given text a size answer table rounds same all read =
    let sections : List (List PageRecord) = [] ∷ map (map written_record) rounds ++ [] ∷ [] in
    let one : answer.reading ≡ closed table sections = same_reading given text answer.reading (closed table sections) size answer.is_reading read in
    record {
      has_memory = answer.has_memory ∙ ap (λ (x : StreamReading). memory_after given.page_size x.table x.rounds) one
          ∙ ap (λ (n : ℕ). memory_after n (Some table) sections) (sym same) ∙ ap (λ (m : Image). Some m) (sections_sent table rounds all);
      has_rounds = answer.has_rounds ∙ ap (λ (x : StreamReading). length x.rounds) one ∙ counted rounds;
      has_verdict = answer.has_verdict ∙ ap (λ (x : StreamReading). verdict_of a.rounds x.state) one;
      has_missing = answer.has_missing ∙ ap (λ (x : StreamReading). missing_after given.page_size x.table x.rounds) one
          ∙ ap (λ (n : ℕ). missing_after n (Some table) sections) (sym same) ∙ ap (λ (n : ℕ). Some n) (missing_sent table rounds all);
    }

-- THE STREAM OF A SENDER is loaded completely.
pub sent_answer_is : {A : Type 0} (p limit : ℕ) (text : List ℕ) (a : Loaded A) → IsPageSize p → IsSingleAnswer (ram_settings p limit) text a
    → (table : RamTable) (rounds : List (List Page)) → IsTable table → table.page_size ≡ p → total_bytes table ≤ limit
    → All (IsRound table) rounds → text ≡ single table rounds → HasLoadedRounds table rounds a
sent_answer_is p limit text a size answer table rounds is same room all sent =
    let sections : List (List PageRecord) = [] ∷ map (map written_record) rounds ++ [] ∷ [] in
    let spelled : IsReading (settings Single table.page_size limit) (text ++ []) (closed table sections) =
    spelled_law Single limit text [] table sections
    (subst (λ x. IsText Single limit x table sections) (sym sent) (written_single table rounds limit is room all)) in
    let read : IsReading (settings Single p limit) text (closed table sections) =
    subst (λ x. IsReading (settings Single p limit) x (closed table sections)) (append-nil text)
    (subst (λ x. IsReading (settings Single x limit) (text ++ []) (closed table sections)) same spelled) in
    closed_answer_is (ram_settings p limit) text a size answer table rounds same all read

-- a stream that was sent is loaded as it was sent, or memory was refused
pub sent_is_loaded : {A : Type 0} (p limit : ℕ) (text : List ℕ) (a : Loaded A) → IsPageSize p
    → IsSingleAnswer (ram_settings p limit) text a ⊎ IsSingleWithoutMemory (ram_settings p limit) text a
    → (table : RamTable) (rounds : List (List Page)) → IsTable table → table.page_size ≡ p → total_bytes table ≤ limit
    → All (IsRound table) rounds → text ≡ single table rounds → HasLoadedRounds table rounds a ⊎ IsSingleWithoutMemory (ram_settings p limit) text a
sent_is_loaded p limit text a size (inr want) table rounds is same room all sent = inr want
sent_is_loaded p limit text a size (inl answer) table rounds is same room all sent =
    inl (sent_answer_is p limit text a size answer table rounds is same room all sent)

-- ---- what is given

-- what holds of an answer if there is one holds of the answer that there is
pub of_some : {R : Type 0} (P : R → Type 0) (o : Option R) (r : R) → o ≡ Some r → IfSome o P → P r
of_some P o r is h = subst (λ x. IfSome x P) is h

-- a call that succeeds without an answer leaves what holds of none
pub of_none : {R E : Type 0} (X : Type 0) (result : Result (Option R) E) → IsOk result → ((r : R) → result ≡ Ok (Some r) → ⊥)
    → IfOk result (λ o. IfNone o X) → X
of_none X (Ok None) ok other h = h
of_none X (Ok (Some r)) ok other h = absurd (other r refl)
of_none X (Err e) ok other h = absurd cc
