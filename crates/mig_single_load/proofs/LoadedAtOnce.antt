-- Records that are written into memory as they come, and what that leaves where the stream is
-- closed.
use Rattle.std.proofs.Common.{ℕ, ◌≡◌, ◌≢◌, ◌+◌, ◌*◌, ◌^◌, ◌<◌, ◌≤◌, not, List, [], ◌∷◌, ◌++◌, length, map, refl, sym, ap, ◌∙◌, subst, append_assoc, Option}
use Rattle.std.proofs.Common.{Some, None, arith, All}
use Rattle.std.specs.Prelude.{IfSome}
use Rattle.std.proofs.lemmas.List.{map-append, append-nil, length-append}
use Rattle.mig_mem.specs.PageSize.{IsPageSize}
use Rattle.mig_mem.specs.RamTable.{RamTable}
use Rattle.mig_mem.specs.declared.place.Place.{Place}
use Rattle.mig_mem.specs.Place.{IsPlace, has_place}
use Rattle.mig_mem.specs.PlaceSet.{PlaceSet, places_where}
use Rattle.mig_mem.specs.Image.{Page, Image, zero_image}
use Rattle.mig_mem.specs.Round.{with_round, all_pages}
use Rattle.mig_mem.proofs.Rounds.{after-nil, all_pages-push, onto-zeros}
use Rattle.mig_stream.specs.declared.item.StreamState.{StreamState}
use Rattle.mig_stream.specs.declared.item.StreamState.TheVariants.{Closed}
use Rattle.mig_stream.specs.declared.record_reader.RecordEvent.{RecordEvent}
use Rattle.mig_stream.specs.declared.record_reader.RecordEvent.TheVariants.{Records, Section, End}
use Rattle.mig_stream.specs.PageRecord.{PageRecord, page_of}
use Rattle.mig_stream.specs.Reading.{StreamReading}
use Rattle.mig_stream.specs.Reader.{HasTable, IsValidUpTo}
use Rattle.mig_stream.specs.Round.{RoundOfRecords}
use Rattle.mig_stream.specs.Giving.{Giver, GivenSoFar, none_given, with_more, with_last, with_given, Gives, GivesOn, GiverTells, EndsSo, HasReading, TellsFound}
use Rattle.mig_stream.specs.Giving.{left, LeavesLess}
use Rattle.mig_stream.proofs.Valid.{closed_is_valid}
use Rattle.mig_assemble.specs.Judging.{places_of}
use Rattle.mig_assemble.specs.NamedPlaces.{places_in, left_out, missing_of, with_places}
use Rattle.mig_assemble.specs.Target.{none_named, pages_of_round, FitsTable}
use Rattle.mig_assemble.proofs.Putting.{put_after}
use Rattle.mig_assemble.proofs.Naming.{with_places-append, with_places-table, names_more, named_by-nil, missing_is}
use Rattle.mig_load_types.specs.Settings.{single_of}
use Rattle.mig_load_types.specs.declared.settings.LoadSettings.{LoadSettings}
use Rattle.mig_load_types.specs.declared.loaded.Loaded.{Loaded}
use Rattle.mig_single_load.specs.SingleLoad.{memory_after, missing_after, verdict_of, closed_answer, IsSingleAnswer}
use Rattle.mig_single_load.proofs.Sections.{pages_in, same_reading, size_is}

-- ---- the pages of what was given

-- all pages that were given so far, in the order of the stream
abbrev pub pages_given : ℕ → GivenSoFar → List Page
pages_given p so_far = all_pages (pages_in p so_far.sections) ++ map (page_of p) so_far.open_section

-- more records add their pages to those that were given
pub given_more : (p : ℕ) (so_far : GivenSoFar) (records : List PageRecord)
    → pages_given p so_far ++ map (page_of p) records ≡ pages_given p (with_more records so_far)
given_more p so_far records =
    let whole : List Page = all_pages (pages_in p so_far.sections) in
    append_assoc whole (map (page_of p) so_far.open_section) (map (page_of p) records)
    ∙ ap (λ (x : List Page). whole ++ x) (sym (map-append (page_of p) so_far.open_section records))

-- the last records add their pages to those that were given
pub given_last : (p : ℕ) (so_far : GivenSoFar) (records : List PageRecord)
    → pages_given p so_far ++ map (page_of p) records ≡ pages_given p (with_last records so_far)
given_last p so_far records =
    let last : List PageRecord = so_far.open_section ++ records in
    given_more p so_far records
    ∙ sym (all_pages-push (pages_in p so_far.sections) (map (page_of p) last))
    ∙ ap all_pages (sym (map-append (map (page_of p)) so_far.sections (last ∷ [])))
    ∙ sym (append-nil (all_pages (pages_in p (so_far.sections ++ last ∷ []))))

-- ---- the loop

-- how many calls may follow
abbrev pub calls : RecordEvent → Giver → ℕ
calls (End found) r = 0
calls other r = 1 + left r

-- A reader gave this last. The memory has what it gave before that, and its places were named.
pub record HasPut (given : LoadSettings) (text : List
    ℕ) (table : RamTable) (gave : RecordEvent) (r : Giver) (m : Image) (named : PlaceSet) (sections : ℕ) : Type 0 where
  pub so_far : GivenSoFar
  pub is_page_size : IsPageSize given.page_size
  pub has_table : HasTable (single_of given) text (Some table)
  pub gives : Gives (single_of given) text (with_given gave r.given.records so_far) r
  pub is_size : r.given.page_size ≡ given.page_size
  pub has_places : All (λ x. IsPlace table x.place) r.given.records
  pub ends : EndsSo gave (single_of given) text so_far
  pub tells : TellsFound gave r
  pub has_memory : m ≡ with_round (zero_image table) (pages_given given.page_size so_far)
  pub has_named : named ≡ with_places (none_named table) (places_of (pages_given given.page_size so_far))
  pub has_sections : sections ≡ length so_far.sections
  pub is_few : sections + calls gave r ≤ 2 * length text + 1

-- before anything was put
pub few_first : (gave : RecordEvent) (old new : Giver) → LeavesLess gave old new → calls gave new ≤ left old
few_first Records old new less = omega (arith, less)
few_first Section old new less = omega (arith, less)
few_first (End found) old new less = omega arith

-- what a call of a reader gave
pub record Gave (gave : RecordEvent) (old new : Giver) : Type 0 where
  pub ok : GivesOn (with_given gave new.given.records) old new
  pub page_size : GiverTells old (λ given text so_far. new.given.page_size ≡ given.page_size)
  pub places : GiverTells old (λ given text so_far. (table : RamTable) → HasTable given text (Some table) → All (λ x. IsPlace table x.place) new.given.records)
  pub end : GiverTells old (EndsSo gave)
  pub found : TellsFound gave new
  pub less : LeavesLess gave old new

-- after a new reader's first call a memory of zeros, with no place named, has all pages that were
-- given before, and no section
pub put_first : (given : LoadSettings) (text : List ℕ) (table : RamTable) (gave : RecordEvent)
    (old new : Giver) (m : Image) (named : PlaceSet) → IsPageSize given.page_size → Gives (single_of given) text none_given old → left old ≡ 2 * length text + 1
    → Gave gave old new → HasTable (single_of given) text (Some table) → m ≡ zero_image table → named ≡ none_named table
    → HasPut given text table gave new m named 0
put_first given text table gave old new m named size first long step has zeros none =
    let single = single_of given in record {
      so_far = none_given;
      is_page_size = size;
      has_table = has;
      gives = step.ok single text none_given first;
      is_size = step.page_size single text none_given first;
      has_places = step.places single text none_given first table has;
      ends = step.end single text none_given first;
      tells = step.found;
      has_memory = zeros ∙ sym (after-nil table) ∙ onto-zeros table [];
      has_named = none;
      has_sections = refl;
      is_few = omega (arith, few_first gave old new step.less, long);
    }

-- what is put next is of the memory, and of the set
put_fits_of : (given : LoadSettings) (text : List ℕ)
    (table own : RamTable) (gave : RecordEvent) (r : Giver) (m : Image) (named : PlaceSet) (sections : ℕ) → own ≡ table
    → HasPut given text table gave r m named sections → FitsTable own r.given
put_fits_of given text table own gave r m named sections same h = record {
  has_page_size = h.is_size ∙ sym (size_is given text table h.is_page_size h.has_table) ∙ ap (λ (t : RamTable). t.page_size) (sym same);
  has_places = subst (λ (t : RamTable). All (λ x. IsPlace t x.place) r.given.records) (sym same) h.has_places;
}

-- the records that a reader gave last are of pages of the memory's table
pub put_fits : (given : LoadSettings) (text : List
    ℕ) (table : RamTable) (gave : RecordEvent) (r : Giver) (m : Image) (named : PlaceSet) (sections : ℕ) → HasPut given text table gave r m named sections
    → FitsTable m.table r.given
put_fits given text table gave r m named sections h = put_fits_of given text table m.table gave r m named sections (ap (λ (x : Image). x.table) h.has_memory) h

-- the records that a reader gave last are of pages of the table of the named places
pub name_fits : (given : LoadSettings) (text : List
    ℕ) (table : RamTable) (gave : RecordEvent) (r : Giver) (m : Image) (named : PlaceSet) (sections : ℕ) → HasPut given text table gave r m named sections
    → FitsTable named.table r.given
name_fits given text table gave r m named sections h =
    let same : named.table ≡ table = ap (λ (x : PlaceSet). x.table) h.has_named
    ∙ with_places-table (none_named table) (places_of (pages_given given.page_size h.so_far)) in
    put_fits_of given text table named.table gave r m named sections same h

-- and then it is in the memory
put_on : (p : ℕ) (table : RamTable) (so_far then : GivenSoFar) (given : RoundOfRecords) (m new : Image)
    → m ≡ with_round (zero_image table) (pages_given p so_far) → given.page_size ≡ p
    → pages_given p so_far ++ map (page_of p) given.records ≡ pages_given p then → new ≡ with_round m (pages_of_round given)
    → new ≡ with_round (zero_image table) (pages_given p then)
put_on p table so_far then given m new before size pages is =
    is
    ∙ ap (λ (n : ℕ). with_round m (map (page_of n) given.records)) size
    ∙ ap (λ (x : Image). with_round x (map (page_of p) given.records)) before
    ∙ put_after (zero_image table) (pages_given p so_far) (map (page_of p) given.records)
    ∙ ap (with_round (zero_image table)) pages

-- and its places are named
name_on : (p : ℕ) (table : RamTable) (so_far then : GivenSoFar) (given : RoundOfRecords) (s new : PlaceSet)
    → s ≡ with_places (none_named table) (places_of (pages_given p so_far)) → given.page_size ≡ p
    → pages_given p so_far ++ map (page_of p) given.records ≡ pages_given p then → new ≡ with_places s (places_of (pages_of_round given))
    → new ≡ with_places (none_named table) (places_of (pages_given p then))
name_on p table so_far then given s new before size pages is =
    let none : PlaceSet = none_named table in
    let more : List Page = map (page_of p) given.records in
    is
    ∙ ap (λ (n : ℕ). with_places s (places_of (map (page_of n) given.records))) size
    ∙ ap (λ (x : PlaceSet). with_places x (places_of more)) before
    ∙ sym (with_places-append none (places_of (pages_given p so_far)) (places_of more))
    ∙ ap (with_places none) (sym (map-append (λ (x : Page). x.place) (pages_given p so_far) more) ∙ ap places_of pages)

goes_on : (given : LoadSettings) (text : List ℕ) (table : RamTable) (then : GivenSoFar) (gave : RecordEvent)
    (r s : Giver) (m : Image) (named : PlaceSet) (sections : ℕ) → IsPageSize given.page_size
    → HasTable (single_of given) text (Some table) → Gives (single_of given) text then r → m ≡ with_round (zero_image table) (pages_given given.page_size then)
    → named ≡ with_places (none_named table) (places_of (pages_given given.page_size then)) → sections ≡ length then.sections
    → sections + left r ≤ 2 * length text + 1
    → Gave gave r s → HasPut given text table gave s m named sections
goes_on given text table then gave r s m named sections size has gives memory names count few step =
    let single = single_of given in record {
      so_far = then;
      is_page_size = size;
      has_table = has;
      gives = step.ok single text then gives;
      is_size = step.page_size single text then gives;
      has_places = step.places single text then gives table has;
      ends = step.end single text then gives;
      tells = step.found;
      has_memory = memory;
      has_named = names;
      has_sections = count;
      is_few = omega (arith, few_first gave r s step.less, few);
    }

-- the records of a section that isn't whole
pub put_records_more : (given : LoadSettings) (text : List ℕ) (table : RamTable) (gave next : RecordEvent) (r s : Giver)
    (m new : Image) (names more : PlaceSet) (sections : ℕ) → gave ≡ Records
    → HasPut given text table gave r m names sections → new ≡ with_round m (pages_of_round r.given)
    → more ≡ with_places names (places_of (pages_of_round r.given)) → Gave next r s
    → HasPut given text table next s new more sections
put_records_more given text table gave next r s m new names more sections are before is adds step =
    let h : HasPut given text table Records r m names sections = subst (λ (x : RecordEvent). HasPut given text table x r m names sections) are before in
    let then : GivenSoFar = with_more r.given.records h.so_far in
    let memory = put_on given.page_size table h.so_far then r.given m new h.has_memory h.is_size (given_more given.page_size h.so_far r.given.records) is in
    let named = name_on given.page_size table h.so_far then r.given names more h.has_named h.is_size
    (given_more given.page_size h.so_far r.given.records) adds in
    goes_on given text table then next r s new more sections h.is_page_size h.has_table h.gives memory named h.has_sections (omega (arith, h.is_few)) step

-- the last records of a section
pub put_section_more : (given : LoadSettings) (text : List ℕ) (table : RamTable) (gave next : RecordEvent) (r s : Giver)
    (m new : Image) (names more : PlaceSet) (sections : ℕ) → gave ≡ Section
    → HasPut given text table gave r m names sections → new ≡ with_round m (pages_of_round r.given)
    → more ≡ with_places names (places_of (pages_of_round r.given)) → Gave next r s
    → HasPut given text table next s new more (sections + 1)
put_section_more given text table gave next r s m new names more sections are before is adds step =
    let h : HasPut given text table Section r m names sections = subst (λ (x : RecordEvent). HasPut given text table x r m names sections) are before in
    let last : List PageRecord = h.so_far.open_section ++ r.given.records in
    let then : GivenSoFar = with_last r.given.records h.so_far in
    let memory = put_on given.page_size table h.so_far then r.given m new h.has_memory h.is_size (given_last given.page_size h.so_far r.given.records) is in
    let named = name_on given.page_size table h.so_far then r.given names more h.has_named h.is_size
    (given_last given.page_size h.so_far r.given.records) adds in
    let count : sections + 1 ≡ length then.sections = omega (arith, h.has_sections, length-append h.so_far.sections (last ∷ [])) in
    goes_on given text table then next r s new more (sections + 1) h.is_page_size h.has_table h.gives memory named count (omega (arith, h.is_few)) step

-- and fewer calls are left
pub fewer_records : (gave next : RecordEvent) (r s : Giver) → gave ≡ Records → LeavesLess next r s → calls next s < calls gave r
fewer_records gave next r s are less = subst (λ (x : RecordEvent). calls next s < calls x r) (sym are) (omega (arith, few_first next r s less))

-- after a section fewer calls are left
pub fewer_section : (gave next : RecordEvent) (r s : Giver) → gave ≡ Section → LeavesLess next r s → calls next s < calls gave r
fewer_section gave next r s are less = subst (λ (x : RecordEvent). calls next s < calls x r) (sym are) (omega (arith, few_first next r s less))

-- ---- the end

-- the places of all pages are those of each section
places_all : (rounds : List (List Page)) → places_of (all_pages rounds) ≡ places_in rounds
places_all [] = refl
places_all (round ∷ rounds) = map-append (λ (x : Page). x.place) round (all_pages rounds) ∙ ap (λ (l : List Place). places_of round ++ l) (places_all rounds)

-- how many pages weren't named
left_unnamed : (table : RamTable) (rounds : List (List Page)) (pages : List Page) (named : PlaceSet)
    → named ≡ with_places (none_named table) (places_of pages) → pages ≡ all_pages rounds
    → length (places_where named.table (λ p. not (has_place named.marked p))) ≡ missing_of table rounds
left_unnamed table rounds pages named is all =
    missing_is table (places_of pages) named (is ∙ names_more table [] (places_of pages) (none_named table) (named_by-nil table))
    ∙ ap (left_out table) (ap places_of all ∙ places_all rounds)

-- If the stream is closed the memory is that after its sections, and the stream ends where it is
-- valid up to.
closed_answers : {A : Type 0} (given : LoadSettings) (text : List ℕ) (table : RamTable) (r : Giver) (m : Image) (named : PlaceSet)
    (sections at : ℕ) → HasPut given text table (End Closed) r m named sections
    → IsValidUpTo (single_of given) text at → IsSingleAnswer {A = A} given text (closed_answer m named sections at)
closed_answers given text table r m named sections at h valid =
    let end : HasReading (single_of given) text h.so_far Closed = h.ends in
    let reading : StreamReading = end.reading in
    let same : reading ≡ h.has_table.0 = same_reading given text reading h.has_table.0 h.is_page_size end.is_reading h.has_table.1 in
    let whole : reading.table ≡ Some table = ap (λ (x : StreamReading). x.table) same ∙ sym h.has_table.2 in
    let pages : pages_given given.page_size h.so_far ≡ all_pages (pages_in given.page_size reading.rounds) =
    ap (λ (x : List PageRecord). all_pages (pages_in given.page_size h.so_far.sections) ++ map (page_of given.page_size) x)
    (end.has_none_open refl) ∙ append-nil (all_pages (pages_in given.page_size h.so_far.sections))
    ∙ ap (λ (x : List (List PageRecord)). all_pages (pages_in given.page_size x)) (sym end.has_sections) in
    record {
      reading = reading;
      is_reading = end.is_reading;
      has_memory =
          ap (λ (x : Image). Some x) (h.has_memory ∙ ap (with_round (zero_image table)) pages
          ∙ sym (onto-zeros table (pages_in given.page_size reading.rounds)))
          ∙ ap (λ (t : Option RamTable). memory_after given.page_size t reading.rounds) (sym whole);
      has_rounds = h.has_sections ∙ ap (λ (x : List (List PageRecord)). length x) (sym end.has_sections);
      has_verdict = ap (verdict_of sections) (sym end.has_state);
      has_missing =
          ap (λ (n : ℕ). Some n) (left_unnamed table (pages_in given.page_size reading.rounds) (pages_given given.page_size h.so_far) named h.has_named pages)
          ∙ ap (λ (t : Option RamTable). missing_after given.page_size t reading.rounds) (sym whole);
      has_closed_at = (closed_is_valid (single_of given) text at (reading, end.is_reading, sym end.has_state)).0 valid;
      has_valid_up_to = valid;
    }

-- once a reader gave the end, an answer that the stream is closed, with the memory and the places
-- put so far, is the answer on that stream
pub answers_each : {A : Type 0} (given : LoadSettings) (text : List
    ℕ) (table : RamTable) (gave : RecordEvent) (found : StreamState) (r : Giver) (m : Image) (named : PlaceSet) (sections at : ℕ) (o : Option (Loaded A))
    → gave ≡ End found → HasPut given text table gave r m named sections → length text < 2 ^ 64
    → (r.found ≢ None → GiverTells r (λ given text so_far. length text < 2 ^ 64 → IsValidUpTo given text at))
    → IfSome o (λ a. (found ≡ Closed) × (a ≡ closed_answer m named sections at)) → IfSome o (λ a. IsSingleAnswer given text a)
answers_each given text table gave found r m named sections at None is put short valid h = tt
answers_each given text table gave found r m named sections at (Some a) is put short valid h =
    let closed : HasPut given text table (End Closed) r m named sections =
    subst (λ (x : RecordEvent). HasPut given text table x r m named sections) (is ∙ ap (λ (x : StreamState). End x) h.0) put in
    let there : r.found ≡ Some Closed = closed.tells.0 in
    let up_to : IsValidUpTo (single_of given) text at =
    valid (λ e. let bad : Some Closed ≡ None = sym there ∙ e in cc) (single_of given) text closed.so_far closed.gives short in
    subst (λ x. IsSingleAnswer given text x) (sym h.1) (closed_answers given text table r m named sections at closed up_to)
