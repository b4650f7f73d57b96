-- A stream that is read by whole sections: what its reader gives, and what that makes of the
-- memory.
use Rattle.std.proofs.Common.{not, ℕ, ◌≡◌, ◌<◌, ◌≤◌, ◌+◌, ◌^◌, List, [], ◌∷◌, ◌++◌, length, map, take, refl, sym, ap, ◌∙◌, inl, inr, Option, Some, None, subst}
use Rattle.std.proofs.Common.{arith, Bool, true, false}
use Rattle.std.specs.Prelude.{◌≢◌, All, IfSome, IsTrue, IsFalse, Result, Ok, Err, IsOk, ⊤}
use Rattle.std.proofs.lemmas.List.{take-append-le, take_all, length-append}
use Rattle.mig_mem.specs.PageSize.{IsPageSize}
use Rattle.mig_mem.specs.RamTable.{RamTable}
use Rattle.mig_mem.specs.Place.{IsPlace, has_place}
use Rattle.mig_mem.specs.PlaceSet.{PlaceSet, places_where}
use Rattle.mig_mem.specs.Image.{Image, Page, IsImage}
use Rattle.mig_mem.specs.Round.{with_rounds}
use Rattle.mig_mem.proofs.Rounds.{onto-nil}
use Rattle.mig_stream.specs.declared.item.StreamState.{StreamState}
use Rattle.mig_stream.specs.declared.item.StreamState.TheVariants.{Reading}
use Rattle.mig_stream.specs.PageRecord.{PageRecord}
use Rattle.mig_stream.specs.Reading.{StreamReading, IsReading}
use Rattle.mig_stream.specs.Reader.{Reader, Stands, StepsOn, with_piece, HasTable, HasState, HasClosedAt, IsValidUpTo}
use Rattle.mig_stream.specs.Round.{RoundOfRecords}
use Rattle.mig_stream.specs.Law.{StaysRead}
use Rattle.mig_stream.proofs.Exists.{one_reading_law}
use Rattle.mig_stream.proofs.Limits.{limits_law}
use Rattle.mig_stream.proofs.Longer.{longer_law}
use Rattle.mig_assemble.specs.NamedPlaces.{named_by, places_in}
use Rattle.mig_assemble.specs.Target.{none_named, FitsTable}
use Rattle.mig_assemble.proofs.Naming.{named_by-nil, missing_is}
use Rattle.mig_load_types.specs.Settings.{for_table}
use Rattle.mig_load_types.specs.declared.settings.LoadSettings.{LoadSettings}
use Rattle.mig_load_types.specs.declared.fault.LoadFault.{LoadFault}
use Rattle.mig_single_load.specs.SingleLoad.{verdict_of}
use Rattle.mig_single_load.specs.Loader.{put_so_far, memory_with, HasPutSections, HasPutAllSections}
use Rattle.mig_single_load.specs.InPlace.{settings_of, IsOfOwnTable, IsOfOtherTable, HasOtherTable, HasVerdictOnto, pages_on}
use Rattle.mig_single_load.specs.LoadInPlace.{settings_for, IsOfTable, HasClosedAtOnto, IsValidUpToOnto}
use Rattle.mig_single_load.proofs.Sections.{same_reading}
use Rattle.mig_single_load.proofs.Onto.{apart}
use Rattle.mig_single_load.proofs.LoadsInPlace.{own_of, own_first}
use Rattle.mig_sections.specs.Sections.{SectionsLoad, sections_load, reader_if, IsReadBy, HasSections, HasMissingSections, LoadsSections, GoesOn, Takes}
use Rattle.mig_sections.specs.Sections.{ReadsSome}

-- a section of a stream of this table is of a memory of it
pub fits_table : (table : RamTable) (round : RoundOfRecords) → round.page_size ≡ table.page_size → All (λ r. IsPlace table r.place) round.records
    → FitsTable table round
fits_table table round size places = record { has_page_size = size; has_places = places }

-- ---- what a memory has

-- a memory that has these sections, a set of the places that they named, and their number
abbrev pub Holds : Image → List (List PageRecord) → Image → PlaceSet → ℕ → Type 0
Holds first sections memory named n =
    (memory ≡ with_rounds first (map (pages_on first) sections)) × (named ≡ named_by first.table (map (pages_on first) sections)) × (n ≡ length sections)

-- the same sections, said otherwise
holds_same : (first : Image) (a b : List (List PageRecord)) (memory : Image) (named : PlaceSet) (n : ℕ) → a ≡ b → Holds first a memory named n
    → Holds first b memory named n
holds_same first a b memory named n same holds = subst (λ (l : List (List PageRecord)). Holds first l memory named n) same holds

-- a stream that is read by a reader has the memory's table, or none yet
pub own_read : (given : LoadSettings) (first : Image) (text : List ℕ) (n : ℕ) (r : Reader) (reading : StreamReading) → IsPageSize first.table.page_size
    → IsReadBy given first.table text n (Some r) → IsReading (settings_of first given) text reading → IsOfOwnTable first reading
own_read given first text n r reading size read is = own_of given first text reading size is read.0

-- one that is not has another table
pub other_read : (given : LoadSettings) (first : Image) (text : List ℕ) (n : ℕ) (reading : StreamReading) → IsPageSize first.table.page_size
    → IsReadBy given first.table text n None → IsReading (settings_of first given) text reading → IsOfOtherTable first reading
other_read given first text n reading size read is =
    let one : read.1.0 ≡ reading = same_reading (for_table first.table given) text read.1.0 reading size read.1.1 is in
    (read.0, sym (read.1.2 ∙ ap (λ (x : StreamReading). x.table) one), read.2)

-- the memory of a load whose stream has the memory's table, or none yet
pub holds_of : (given : LoadSettings) (first : Image) (text : List ℕ) (memory : Image) (named : PlaceSet) (n : ℕ) (r : Reader) (reading : StreamReading)
    → HasSections given first text memory named n (Some r) → IsReading (settings_of first given) text reading → Holds first reading.rounds memory named n
holds_of given first text memory named n r reading has is =
    let load : LoadSettings = for_table first.table given in
    let size : IsPageSize first.table.page_size = has.is_page_size in
    let one : has.in_memory.reading ≡ reading = same_reading load text has.in_memory.reading reading size has.in_memory.is_reading is in
    let two : has.has_named.reading ≡ reading = same_reading load text has.has_named.reading reading size has.has_named.is_reading is in
    let put = has.in_memory.own (own_read given first text n r has.in_memory.reading size has.is_read has.in_memory.is_reading) in
    let names = has.has_named.own (own_read given first text n r has.has_named.reading size has.is_read has.has_named.is_reading) in (
      put.0 ∙ ap (λ (x : StreamReading). with_rounds first (map (pages_on first) x.rounds)) one,
      names ∙ ap (λ (x : StreamReading). named_by first.table (map (pages_on first) x.rounds)) two,
      put.1 ∙ ap (λ (x : StreamReading). length x.rounds) one,
    )

-- and so a load of such a stream is one whose memory holds its sections
pub sections_own : (given : LoadSettings) (first : Image) (text : List ℕ) (memory : Image) (named : PlaceSet) (n : ℕ) (r : Reader) (reading : StreamReading)
    → IsPageSize first.table.page_size → IsReading (settings_of first given) text reading → memory.table ≡ first.table
    → IsReadBy given first.table text n (Some r) → Holds first reading.rounds memory named n → HasSections given first text memory named n (Some r)
sections_own given first text memory named n r reading size is same read holds =
    let own : IsOfOwnTable first reading = own_read given first text n r reading size read is in
    record {
      is_page_size = size;
      is_read = read;
      in_memory = record {
        reading = reading;
        is_reading = is;
        same_table = same;
        own = λ _. (holds.0, holds.2);
        other = λ o. absurd (apart first reading own o);
      };
      has_named = record { reading = reading; is_reading = is; own = λ _. holds.1; other = λ o. absurd (apart first reading own o) };
    }

-- without a reader it has nothing
pub sections_other : (given : LoadSettings) (first : Image) (text : List ℕ) (memory : Image) (named : PlaceSet) (n : ℕ) (reading : StreamReading)
    → IsPageSize first.table.page_size → IsReading (settings_of first given) text reading
    → IsReadBy given first.table text n None → memory ≡ first → named ≡ none_named first.table → n ≡ 0 → HasSections given first text memory named n None
sections_other given first text memory named n reading size is read put names none =
    let other : IsOfOtherTable first reading = other_read given first text n reading size read is in
    record {
      is_page_size = size;
      is_read = read;
      in_memory = record {
        reading = reading;
        is_reading = is;
        same_table = ap (λ (m : Image). m.table) put;
        own = λ o. absurd (apart first reading o other);
        other = λ _. (put, none);
      };
      has_named = record { reading = reading; is_reading = is; own = λ o. absurd (apart first reading o other); other = λ _. names };
    }

-- ---- a piece more

-- a list in front of a list that is empty
empty_front : {T : Type 0} (a b : List T) → [] ≡ a ++ b → a ≡ []
empty_front [] b e = refl
empty_front (x ∷ a) b e = absurd cc

-- the stream's table isn't there yet
pub no_table_yet : (given : LoadSettings) (first : Image) (text piece : List ℕ) (memory : Image) (named : PlaceSet) (n : ℕ) (r s : Reader)
    → HasSections given first text memory named n (Some r) → StepsOn (with_piece piece) r s → HasTable (settings_for first.table given) (text ++ piece) None
    → HasSections given first (text ++ piece) memory named n (Some s)
no_table_yet given first text piece memory named n r s has step none =
    let load : LoadSettings = for_table first.table given in
    let size : IsPageSize first.table.page_size = has.is_page_size in
    let before : StreamReading = has.in_memory.reading in
    let now : StreamReading = none.0 in
    let stays : StaysRead before now = longer_law (settings_of first given) text piece before now size has.in_memory.is_reading none.1 in
    let empty : now.rounds ≡ [] = (limits_law (settings_of first given) (text ++ piece) now size none.1).has_table_first (sym none.2) in
    let same : before.rounds ≡ now.rounds = empty_front before.rounds stays.more_rounds (sym empty ∙ stays.has_rounds) ∙ sym empty in
    sections_own given first (text ++ piece) memory named n s now size none.1 has.in_memory.same_table
    (inl none, step (settings_for first.table given) (put_so_far text false n) has.is_read.1)
    (holds_same first before.rounds now.rounds memory named n same (holds_of given first text memory named n r before has has.in_memory.is_reading))

-- the stream has another table
pub other_found : (given : LoadSettings) (first : Image) (text piece : List ℕ) (memory : Image) (named : PlaceSet) (n : ℕ) (r : Reader) (table : RamTable)
    → IsImage first
    → HasSections given first text memory named n (Some r) → HasTable (settings_for first.table given) (text ++ piece) (Some table) → table ≢ first.table
    → HasSections given first (text ++ piece) memory named n None
other_found given first text piece memory named n r table image has found foreign =
    let load : LoadSettings = for_table first.table given in
    let size : IsPageSize first.table.page_size = has.is_page_size in
    let before : StreamReading = has.in_memory.reading in
    let is_before = has.in_memory.is_reading in
    let now : StreamReading = found.0 in
    let stays : StaysRead before now = longer_law (settings_of first given) text piece before now size is_before found.1 in
    let none : before.table ≡ None = elim (own_read given first text n r before size has.is_read is_before) [
      | inl nothing ↦ nothing
      | inr own ↦ absurd (foreign (let both : Some table ≡ Some first.table = found.2 ∙ stays.same_table first.table own in cc))
    ] in
    let empty : before.rounds ≡ [] = (limits_law (settings_of first given) text before size is_before).has_table_first none in
    let holds : Holds first [] memory named n =
    holds_same first before.rounds [] memory named n empty (holds_of given first text memory named n r before has is_before) in
    sections_other given first (text ++ piece) memory named n now size found.1 (table, found, foreign)
    (holds.0 ∙ onto-nil first image) (holds.1 ∙ sym (named_by-nil first.table)) holds.2

-- it stays so
pub other_stays : (given : LoadSettings) (first : Image) (text piece : List ℕ) (memory : Image) (named : PlaceSet) (n : ℕ)
    → HasSections given first text memory named n None → HasSections given first (text ++ piece) memory named n None
other_stays given first text piece memory named n has =
    let load : LoadSettings = for_table first.table given in
    let size : IsPageSize first.table.page_size = has.is_page_size in
    let read = has.is_read in
    let before : StreamReading = has.in_memory.reading in
    let now = one_reading_law (settings_of first given) (text ++ piece) size in
    let stays : StaysRead read.1.0 now.0 = longer_law (settings_of first given) text piece read.1.0 now.0 size read.1.1 now.1 in
    let put = has.in_memory.other (other_read given first text n before size read has.in_memory.is_reading) in
    let names = has.has_named.other (other_read given first text n has.has_named.reading size read has.has_named.is_reading) in
    sections_other given first (text ++ piece) memory named n now.0 size now.1
    (read.0, (now.0, now.1, sym (stays.same_table read.0 (sym read.1.2))), read.2) put.0 names put.1

-- the stream has the memory's table: the memory has the first sections, and others may wait
pub own_found : (given : LoadSettings) (first : Image) (text piece : List ℕ) (memory : Image) (named : PlaceSet) (n : ℕ) (r s : Reader)
    → HasSections given first text memory named n (Some r) → StepsOn (with_piece piece) r s
    → HasTable (settings_for first.table given) (text ++ piece) (Some first.table)
    → HasPutSections (for_table first.table given) first (text ++ piece) false s (memory_with memory named n)
own_found given first text piece memory named n r s has step found =
    let load : LoadSettings = for_table first.table given in
    let size : IsPageSize first.table.page_size = has.is_page_size in
    let before : StreamReading = has.in_memory.reading in
    let now : StreamReading = found.0 in
    let stays : StaysRead before now = longer_law (settings_of first given) text piece before now size has.in_memory.is_reading found.1 in
    let holds : Holds first before.rounds memory named n = holds_of given first text memory named n r before has has.in_memory.is_reading in
    let few : n ≤ length before.rounds = omega (arith, holds.2) in
    let most : length before.rounds ≤ n = omega (arith, holds.2) in
    let front : (reading : StreamReading) → IsReading (settings_of first given) (text ++ piece) reading → before.rounds ≡ take n reading.rounds = λ reading is.
    let one : now ≡ reading = same_reading load (text ++ piece) now reading size found.1 is in
    sym (take_all n before.rounds most)
    ∙ sym (take-append-le n before.rounds stays.more_rounds few)
    ∙ ap (λ (l : List (List PageRecord)). take n l) (sym stays.has_rounds ∙ ap (λ (x : StreamReading). x.rounds) one) in
    record {
      is_page_size = size;
      stands = step (settings_for first.table given) (put_so_far text false n) has.is_read.1;
      has_first = record {
        has_table = found;
        has_memory = λ reading is. (holds_same first before.rounds (take n reading.rounds) memory named n (front reading is) holds).0;
        has_named = λ reading is. (holds_same first before.rounds (take n reading.rounds) memory named n (front reading is) holds).1;
      };
    }

-- none waits any more
pub own_put : (given : LoadSettings) (first : Image) (text : List ℕ) (memory : Image) (named : PlaceSet) (n : ℕ) (s : Reader)
    → memory.table ≡ first.table → Takes given first.table text n s → HasPutAllSections (for_table first.table given) first text (memory_with memory named n)
    → HasSections given first text memory named n (Some s)
own_put given first text memory named n s same takes all =
    sections_own given first text memory named n s all.reading takes.is_page_size all.is_reading same (inr takes.has_table, takes.stands)
    (all.has_memory, all.has_named, all.has_rounds)

-- a reader that was given a piece more, of a stream of this table
pub takes_more : (given : LoadSettings) (table : RamTable) (text piece : List ℕ) (n : ℕ) (r s : Reader) → IsPageSize table.page_size
    → IsReadBy given table text n (Some r) → StepsOn (with_piece piece) r s → HasTable (settings_for table given) (text ++ piece) (Some table)
    → Takes given table (text ++ piece) n s
takes_more given table text piece n r s size read step found =
    record { is_page_size = size; has_table = found; stands = step (settings_for table given) (put_so_far text false n) read.1 }

-- ---- before the first byte

pub none_read : (given : LoadSettings) (first : Image) (named : PlaceSet) (r : Reader) → IsPageSize first.table.page_size → IsImage first
    → named ≡ none_named first.table → Stands (settings_for first.table given) (put_so_far [] false 0) r → HasSections given first [] first named 0 (Some r)
none_read given first named r size image none stands =
    let own : IsOfTable given first.table [] = own_first given first.table in
    let now = one_reading_law (settings_of first given) [] size in
    let few : length now.0.rounds ≤ 0 = (limits_law (settings_of first given) [] now.0 size now.1).has_few in
    let empty : now.0.rounds ≡ [] = no_length now.0.rounds few in
    sections_own given first [] first named 0 r now.0 size now.1 refl (own, stands)
    (holds_same first [] now.0.rounds first named 0 (sym empty) (sym (onto-nil first image), none ∙ named_by-nil first.table, refl))
  where
    no_length : (l : List (List PageRecord)) → length l ≤ 0 → l ≡ []
    no_length [] e = refl
    no_length (x ∷ l) e = absurd (omega (arith, e))

-- ---- what is told of it

-- how many pages the complete sections don't name
pub tells_missing : (given : LoadSettings) (first : Image) (text : List ℕ) (memory : Image) (named : PlaceSet) (n : ℕ) (reader : Option Reader) (count : ℕ)
    → HasSections given first text memory named n reader → count ≡ length (places_where named.table (λ p. not (has_place named.marked p)))
    → HasMissingSections given first text count
tells_missing given first text memory named n reader count has is = record {
  reading = has.has_named.reading;
  is_reading = has.has_named.is_reading;
  own = λ o. is ∙ missing_is first.table (places_in (map (pages_on first) has.has_named.reading.rounds)) named (has.has_named.own o);
  other = λ o. is ∙ missing_is first.table (places_in []) named (has.has_named.other o ∙ named_by-nil first.table);
}

-- where the stream is closed, and up to where it is valid
pub closed_own : (given : LoadSettings) (first : Image) (text : List ℕ) (memory : Image) (named : PlaceSet) (n : ℕ) (r : Reader) (at : Option ℕ)
    → HasSections given first text memory named n (Some r) → HasClosedAt (settings_of first given) text at → HasClosedAtOnto given first text at
closed_own given first text memory named n r at has closes =
    let reading : StreamReading = has.in_memory.reading in
    let own : IsOfOwnTable first reading = own_read given first text n r reading has.is_page_size has.is_read has.in_memory.is_reading in
    record { reading = reading; is_reading = has.in_memory.is_reading; own = λ _. closes; other = λ o. absurd (apart first reading own o) }

pub valid_own : (given : LoadSettings) (first : Image) (text : List ℕ) (memory : Image) (named : PlaceSet) (n : ℕ) (r : Reader) (at : ℕ)
    → HasSections given first text memory named n (Some r) → IsValidUpTo (settings_of first given) text at → IsValidUpToOnto given first text (Some at)
valid_own given first text memory named n r at has valid =
    let reading : StreamReading = has.in_memory.reading in
    let own : IsOfOwnTable first reading = own_read given first text n r reading has.is_page_size has.is_read has.in_memory.is_reading in
    record { reading = reading; is_reading = has.in_memory.is_reading; own = λ _. (at, refl, valid); other = λ o. absurd (apart first reading own o) }

-- the verdict
pub verdict_own : (given : LoadSettings) (first : Image) (text : List ℕ) (memory : Image) (named : PlaceSet) (n : ℕ) (r : Reader) (found : StreamState)
    (v : Result ⊤ LoadFault)
    → HasSections given first text memory named n (Some r) → HasState (settings_of first given) text false found → v ≡ verdict_of n found
    → HasVerdictOnto given first text v
verdict_own given first text memory named n r found v has told is =
    let reading : StreamReading = told.0 in
    let own : IsOfOwnTable first reading = own_read given first text n r reading has.is_page_size has.is_read told.1 in
    let holds : Holds first reading.rounds memory named n = holds_of given first text memory named n r reading has told.1 in
    record {
      reading = reading;
      is_reading = told.1;
      own = λ _. is ∙ ap (λ (k : ℕ). verdict_of k found) holds.2 ∙ ap (λ (s : StreamState). verdict_of (length reading.rounds) s) told.2;
      other = λ o. absurd (apart first reading own o);
    }

-- whether more of the stream is read
pub goes_on_own : (given : LoadSettings) (first : Image) (text : List ℕ) (memory : Image) (named : PlaceSet) (n : ℕ) (r : Reader) (found : StreamState)
    → HasSections given first text memory named n (Some r) → HasState (settings_of first given) text false found → found ≡ Reading → GoesOn given first text
goes_on_own given first text memory named n r found has told is =
    record { reading = told.0; is_reading = told.1; own = own_read given first text n r told.0 has.is_page_size has.is_read told.1; still = sym told.2 ∙ is }

pub still_reads : (given : LoadSettings) (first : Image) (text : List ℕ) (found : StreamState) → IsPageSize first.table.page_size
    → HasState (settings_of first given) text false found → GoesOn given first text → found ≡ Reading
still_reads given first text found size told on =
    told.2 ∙ ap (λ (x : StreamReading). x.state) (same_reading (for_table first.table given) text told.0 on.reading size told.1 on.is_reading) ∙ on.still

pub not_without : (given : LoadSettings) (first : Image) (text : List ℕ) (memory : Image) (named : PlaceSet) (n : ℕ)
    → HasSections given first text memory named n None → GoesOn given first text → ⊥
not_without given first text memory named n has on = apart first on.reading on.own
    (other_read given first text n on.reading has.is_page_size has.is_read on.is_reading)

-- a stream that is read by a reader isn't of another table
pub not_another : (given : LoadSettings) (first : Image) (text : List ℕ) (memory : Image) (named : PlaceSet) (n : ℕ) (r : Reader)
    → HasSections given first text memory named n (Some r) → HasOtherTable given first text → ⊥
not_another given first text memory named n r has another =
    apart first another.0 (own_read given first text n r another.0 has.is_page_size has.is_read another.1) another.2

-- ---- a load as it is kept

-- by its reader
pub by_reader : (memory : Image) (given : LoadSettings) (first : Image) (s : SectionsLoad) (text : List ℕ) (ended : Bool) (o : Option Reader) → s.reader ≡ o
    → LoadsSections memory given first s text ended → HasSections given first text memory s.named s.sections o
by_reader memory given first s text ended o is loads = subst
    (λ (x : Option Reader). HasSections given first text memory s.named s.sections x) is loads.has_sections

-- ---- that it goes on

-- a reader of a stream whose table isn't there yet
pub reads_none : (given : LoadSettings) (table : RamTable) (text piece : List ℕ) (n : ℕ) (r s : Reader) → IsPageSize table.page_size
    → IsReadBy given table text n (Some r) → StepsOn (with_piece piece) r s → HasTable (settings_for table given) (text ++ piece) None → ReadsSome table n s
reads_none given table text piece n r s size read step none = record {
  is_page_size = size;
  given = given;
  text = text ++ piece;
  is_read = (inl none, step (settings_for table given) (put_so_far text false n) read.1);
}

-- and of one that has this table
pub reads_some : (given : LoadSettings) (table : RamTable) (text : List ℕ) (n : ℕ) (r : Reader) → Takes given table text n r → ReadsSome table n r
reads_some given table text n r takes = record { is_page_size = takes.is_page_size; given = given; text = text; is_read = (inr takes.has_table, takes.stands) }

-- an answer isn't both
pub fed_ok : {R E : Type 0} (result : Result R E) (e : E) → result ≡ Err e → IsOk result → ⊥
fed_ok {R} {E} result e is ok = let bad = subst (λ r. IsOk r) is ok in absurd cc

-- what a load keeps of its reader
pub reads_kept : {table : RamTable} {n fed : ℕ} (o : Option Reader) (r : Reader) → o ≡ Some r
    → IfSome o (λ (x : Reader). ReadsSome table n x × (x.fed ≡ fed) × IsFalse x.ended) → ReadsSome table n r × (r.fed ≡ fed) × IsFalse r.ended
reads_kept {table} {n} {fed} o r is h = subst (λ (x : Option Reader). IfSome x (λ (y : Reader). ReadsSome table n y × (y.fed ≡ fed) × IsFalse y.ended)) is h

pub reads_if : (own : Bool) (table : RamTable) (n fed : ℕ) (r : Reader) → (IsTrue own → ReadsSome table n r) → r.fed ≡ fed → IsFalse r.ended
    → IfSome (reader_if own r) (λ (x : Reader). ReadsSome table n x × (x.fed ≡ fed) × IsFalse x.ended)
reads_if true table n fed r reads count open_yet = (reads refl, count, open_yet)
reads_if false table n fed r reads count open_yet = tt

-- a load that was fed a piece more
pub loads_more : (before after : Image) (given : LoadSettings) (first : Image) (s : SectionsLoad) (text piece : List ℕ) (o : Option Reader) (named : PlaceSet)
    (n : ℕ)
    → LoadsSections before given first s text false → HasSections given first (text ++ piece) after named n o
    → LoadsSections after given first (sections_load o s.table named n (s.fed + length piece) s.ended) (text ++ piece) false
loads_more before after given first s text piece o named n loads has = record {
  is_table = loads.is_table;
  is_image = loads.is_image;
  same_table = loads.same_table;
  has_fed = ap (λ (k : ℕ). k + length piece) loads.has_fed ∙ sym (length-append text piece);
  has_ended = loads.has_ended;
  has_sections = has;
}
