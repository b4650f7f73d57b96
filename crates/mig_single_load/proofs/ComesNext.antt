-- What comes next in a stream that is loaded in place, and a page that the caller has read to where
-- it belongs.
use Rattle.std.proofs.Common.{ℕ, ◌≡◌, ◌+◌, ◌-◌, ◌<◌, ◌^◌, false, arith, List, [], ◌∷◌, ◌++◌, length, map, Option, Some, None, refl, sym, ap, ◌∙◌, subst, inl}
use Rattle.std.proofs.Common.{inr, append_assoc}
use Rattle.std.specs.Prelude.{IfSome, IsSome, MatchOption, min}
use Rattle.std.specs.Option.{option_and_then}
use Rattle.std.proofs.lemmas.List.{append-nil, length-append, length-replicate, map-append}
use Rattle.std.proofs.lemmas.List.Elements.{All-head}
use Rattle.mig_mem.specs.PageSize.{IsPageSize}
use Rattle.mig_mem.specs.RamTable.{RamTable, IsTable}
use Rattle.mig_mem.specs.declared.place.Place.{Place}
use Rattle.mig_mem.specs.Place.{IsPlace, has_place}
use Rattle.mig_mem.specs.PlaceSet.{PlaceSet, places_where, with_place}
use Rattle.mig_mem.specs.Image.{Page, Image, zero_page, with_page}
use Rattle.mig_mem.specs.Round.{with_round, with_rounds, all_pages}
use Rattle.mig_stream.specs.declared.item.Due.TheVariants.{RecordHead}
use Rattle.mig_stream.specs.declared.item.StreamState.TheVariants.{Reading}
use Rattle.mig_stream.specs.declared.wanted.Wanted.{Wanted}
use Rattle.mig_stream.specs.declared.wanted.Wanted.TheVariants as wanted
use Rattle.mig_stream.specs.PageRecord.{PageRecord, page_record}
use Rattle.mig_stream.specs.Progress.{StreamProgress, start, whole_table}
use Rattle.mig_stream.specs.Items.{less_room}
use Rattle.mig_stream.specs.Reading.{Settings, StreamReading, IsReading, Reads}
use Rattle.mig_stream.specs.Reader.{HasTable, IsUnfinished, IsValidUpTo}
use Rattle.mig_stream.specs.Giving.{Giver, GivenSoFar, with_more, all_read, Gives, HasReading, Paused, giver_at, PausesAt, PauseTells}
use Rattle.mig_stream.specs.Wanted.{page_due, AreWanted}
use Rattle.mig_stream.proofs.Feeding.{reads_short}
use Rattle.mig_stream.proofs.Unique.{one_reading}
use Rattle.mig_stream.proofs.Giver.{gives_same, paused_table, none_before_table, more_places, ends_so}
use Rattle.mig_stream.proofs.Taken.{took_page}
use Rattle.mig_assemble.specs.Judging.{places_of}
use Rattle.mig_assemble.specs.NamedPlaces.{HasPlaces}
use Rattle.mig_assemble.proofs.Putting.{put_page_more, put_after}
use Rattle.mig_assemble.proofs.Marked.{place_added}
use Rattle.mig_load_types.specs.Settings.{for_table}
use Rattle.mig_load_types.specs.declared.settings.LoadSettings.{LoadSettings}
use Rattle.mig_single_load.specs.declared.in_place_state.LoadState.{LoadState}
use Rattle.mig_single_load.specs.declared.in_place_state.LoadState.TheVariants as load_state
use Rattle.mig_single_load.specs.InPlace.{settings_of, IsOfOwnTable, pages_on, pages_of_all, HasRecordsOnto, HasNamedOnto}
use Rattle.mig_single_load.specs.LoadInPlace.{given_pages, given_places, NamesAt, Names, settings_for, IsOfTable, PausesOnto, PausesSome, StandsOnto}
use Rattle.mig_single_load.specs.LoadInPlace.{LoadInPlace, load_in_place, LoadsInPlace, IsLoadInPlace}
use Rattle.mig_single_load.specs.ComesNext.{page_wanted, page_asked, IsReadOn, BringsPage, NeedsBytes, ComesNext}
use Rattle.mig_single_load.proofs.Sections.{same_reading}
use Rattle.mig_single_load.proofs.Onto.{apart}
use Rattle.mig_single_load.proofs.LoadedAtOnce.{given_more}
use Rattle.mig_single_load.proofs.LoadsInPlace.{own_of, records_onto, named_onto, gave_of, in_place_on}

-- ---- the content of the page that is due, after a pause

-- all that was read, as given
abbrev all_given : StreamProgress → GivenSoFar
all_given c = record { sections = c.rounds; open_section = c.records }

abbrev given_out : Paused → Paused
given_out p = record p { progress = record p.progress { records = []; rounds = [] } }

counts_given : (given : Settings) (text : List ℕ) (so_far : GivenSoFar) (p : Paused) → PausesAt given text so_far p
    → PausesAt given text (all_given (all_read so_far p.progress)) (given_out p)
counts_given given text so_far p at =
    let c : StreamProgress = all_read so_far p.progress in
    gives_same given text so_far (all_given c) (giver_at p) (giver_at (given_out p))
    (ap (λ (x : List PageRecord). record p.progress { records = x; rounds = c.rounds }) (sym (append-nil c.records))
    ∙ ap (λ (x : List (List PageRecord)). record p.progress { records = c.records ++ []; rounds = x }) (sym (append-nil c.rounds))) refl refl refl at

-- the pause after the content
abbrev after_page : Paused → List ℕ → Paused
after_page p content = record {
  progress = record p.progress { due = RecordHead; room = less_room p.progress.room; records = []; rounds = [] };
  pending = p.pending;
  fed = min (p.fed + length content) (2 ^ 64 - 1);
}

-- what was given then: the page's record, too
abbrev with_content : GivenSoFar → Paused → Place → List ℕ → GivenSoFar
with_content so_far p place content = with_more (page_record place content ∷ []) (all_given (all_read so_far p.progress))

took : (given : Settings) (text content : List ℕ) (so_far : GivenSoFar) (p : Paused) (place : Place) → page_due p ≡ Some place
    → length content ≡ p.progress.page_size → PausesAt given text so_far p
    → PausesAt given (text ++ content) (with_content so_far p place content) (after_page p content)
took given text content so_far p place due len at =
    took_page given text content (all_given (all_read so_far p.progress)) (given_out p)
    (after_page p content) place due len refl refl refl refl refl (counts_given given text so_far p at)

-- ---- the stream's table

-- before the whole table no page is due
no_page_before : (given : Settings) (text : List ℕ) (so_far : GivenSoFar) (p : Paused) (place : Place) → page_due p ≡ Some place
    → PausesAt given text so_far p → whole_table p.progress ≡ None → ⊥
no_page_before given text so_far p place due at none =
    let content : List ℕ = zero_page p.progress.page_size in
    let c : StreamProgress = all_read so_far p.progress in
    let both = none_before_table given (text ++ content) (with_content so_far p place content) (giver_at (after_page p content))
    (took given text content so_far p place due (length-replicate p.progress.page_size 0) at) none in
    let none_there : c.records ++ page_record place content ∷ [] ≡ [] = both.1 in
    omega (arith, ap (λ (l : List PageRecord). length l) none_there, length-append c.records (page_record place content ∷ []))

-- after it the table is the memory's
page_table : (given : LoadSettings) (table : RamTable) (text : List ℕ) (so_far : GivenSoFar) (p : Paused) (place : Place)
    → IsOfTable given table text → page_due p ≡ Some place
    → PausesAt (settings_for table given) text so_far p → whole_table p.progress ≡ Some table
page_table given table text so_far p place own due at =
    let single : Settings = settings_for table given in
    let size : IsPageSize table.page_size = at.is_page_size in
    let told : HasTable single text (whole_table p.progress) = paused_table single text so_far p at in
    elim own [
      | inl none ↦ absurd (no_page_before single text so_far p place due at
          (told.2 ∙ ap (λ (x : StreamReading). x.table) (same_reading (for_table table given) text told.0 none.0 size told.1 none.1) ∙ sym none.2))
      | inr has ↦ told.2 ∙ ap (λ (x : StreamReading). x.table) (same_reading (for_table table given) text told.0 has.0 size told.1 has.1) ∙ sym has.2
    ]

-- and stays
table_stays : (given : LoadSettings) (table : RamTable) (text content : List ℕ) (so_far : GivenSoFar) (p : Paused) (place : Place)
    → IsOfTable given table text → page_due p ≡ Some place → length content ≡ p.progress.page_size
    → PausesAt (settings_for table given) text so_far p → HasTable (settings_for table given) (text ++ content) (Some table)
table_stays given table text content so_far p place own due len at =
    let single : Settings = settings_for table given in
    subst (λ (t : Option RamTable). HasTable single (text ++ content) t) (page_table given table text so_far p place own due at)
    (paused_table single (text ++ content) (with_content so_far p place content) (after_page p content) (took single text content so_far p place due len at))

-- THE PAGE THAT IS DUE LIES IN THE TABLE: its record would be one of the stream's
pub page_there : (given : LoadSettings) (table : RamTable) (text : List ℕ) (so_far : GivenSoFar) (p : Paused) (place : Place)
    → IsOfTable given table text → page_due p ≡ Some place
    → PausesAt (settings_for table given) text so_far p → IsPlace table place
page_there given table text so_far p place own due at =
    let single : Settings = settings_for table given in
    let content : List ℕ = zero_page p.progress.page_size in
    let len : length content ≡ p.progress.page_size = length-replicate p.progress.page_size 0 in
    let c : StreamProgress = all_read so_far p.progress in
    let q : Paused = after_page p content in
    let waits : Giver = record (giver_at q) { progress = record q.progress { records = page_record place content ∷ [] } } in
    let gives : Gives single (text ++ content) (all_given c) waits =
    gives_same single (text ++ content) (with_content so_far p place content) (all_given c) (giver_at q) waits
    (ap (λ (x : List PageRecord). record q.progress { records = x; rounds = c.rounds ++ [] })
    (append-nil (c.records ++ page_record place content ∷ []))) refl refl refl
    (took single text content so_far p place due len at) in
    All-head (λ (x : PageRecord). IsPlace table x.place) (page_record place content) []
    (more_places single (text ++ content) (all_given c) waits (page_record place content ∷ []) table refl refl gives
    (table_stays given table text content so_far p place own due len at))

-- ---- what a pause has read

abbrev read_at : GivenSoFar → Paused → StreamReading
read_at so_far p = record { table = whole_table p.progress; rounds = (all_read so_far p.progress).rounds; state = Reading }

-- with more bytes that make no item whole, the same
read_more : (given : Settings) (text more : List ℕ) (so_far : GivenSoFar) (p : Paused)
    → IsUnfinished p.progress (p.pending ++ more) → PausesAt given text so_far p
    → Reads (start given.frame given.mode given.page_size given.limit given.waiting) (text ++ more) (all_read so_far p.progress) (p.pending ++ more) Reading
read_more given text more so_far p short at = record {
  front = at.front;
  has_text = ap (λ (x : List ℕ). x ++ more) at.has_text ∙ append_assoc at.front p.pending more;
  leads = at.leads;
  ends = (reads_short (all_read so_far p.progress) (p.pending ++ more) short).ends;
}

reads_at : (given : Settings) (text : List ℕ) (so_far : GivenSoFar) (p : Paused) → PausesAt given text so_far p
    → Reads (start given.frame given.mode given.page_size given.limit given.waiting) text (all_read so_far p.progress) p.pending Reading
reads_at given text so_far p at = record { front = at.front; has_text = at.has_text; leads = at.leads; ends = at.ends }

-- a pause of the memory's table is one where the load reads on
on_at : (given : LoadSettings) (first : Image) (text : List ℕ) (so_far : GivenSoFar) (p : Paused)
    → IsOfTable given first.table text → PausesAt (settings_of first given) text so_far p → IsReadOn given first text
on_at given first text so_far p own at =
    let reading : StreamReading = read_at so_far p in
    let is_reading : IsReading (settings_of first given) text reading =
    record {
      to = all_read so_far p.progress;
      rest = p.pending;
      reads = reads_at (settings_of first given) text so_far p at;
      has_table = refl;
      has_rounds = refl;
    } in
    record { reading = reading; is_reading = is_reading; is_own = own_of given first text reading at.is_page_size is_reading own; is_open = refl }

on_more : (given : LoadSettings) (first : Image) (text more : List ℕ) (so_far : GivenSoFar) (p : Paused)
    → IsUnfinished p.progress (p.pending ++ more) → IsOfTable given first.table text
    → PausesAt (settings_of first given) text so_far p → IsReadOn given first (text ++ more)
on_more given first text more so_far p short own at =
    let reading : StreamReading = read_at so_far p in
    let before : IsReading (settings_of first given) text reading =
    record {
      to = all_read so_far p.progress;
      rest = p.pending;
      reads = reads_at (settings_of first given) text so_far p at;
      has_table = refl;
      has_rounds = refl;
    } in
    record {
      reading = reading;
      is_reading = record {
        to = all_read so_far p.progress;
        rest = p.pending ++ more;
        reads = read_more (settings_of first given) text more so_far p short at;
        has_table = refl;
        has_rounds = refl;
      };
      is_own = own_of given first text reading at.is_page_size before own;
      is_open = refl;
    }

valid_at_more : (given : Settings) (text more : List ℕ) (so_far : GivenSoFar) (p : Paused) (at : ℕ)
    → IsUnfinished p.progress (p.pending ++ more) → PausesAt given text so_far p → IsValidUpTo given text at
    → IsValidUpTo given (text ++ more) at
unfolding read_more
valid_at_more given text more so_far p at short pauses valid =
    let from : StreamProgress = start given.frame given.mode given.page_size given.limit given.waiting in
    let same = one_reading from text valid.to (all_read so_far p.progress) valid.rest p.pending valid.state Reading valid.reads
    (reads_at given text so_far p pauses) in
    record {
      to = all_read so_far p.progress;
      rest = p.pending ++ more;
      state = Reading;
      reads = read_more given text more so_far p short pauses;
      has_length = omega (
        arith,
        valid.has_length,
        ap (λ (l : List ℕ). length l) valid.reads.has_text,
        ap (λ (l : List ℕ). length l) pauses.has_text,
        length-append valid.reads.front valid.rest,
        length-append pauses.front p.pending,
        ap (λ (l : List ℕ). length l) same.1,
      );
    }

-- whatever the stream reads as, it is read on
still_open : (given : LoadSettings) (first : Image) (text : List ℕ) (reading : StreamReading) → IsPageSize first.table.page_size
    → IsReading (settings_of first given) text reading → IsReadOn given first text
    → (reading.state ≡ Reading) × IsOfOwnTable first reading
still_open given first text reading size is on =
    let same : on.reading ≡ reading = same_reading (for_table first.table given) text on.reading reading size on.is_reading is in
    (ap (λ (x : StreamReading). x.state) (sym same) ∙ on.is_open, subst (λ (x : StreamReading). IsOfOwnTable first x) same on.is_own)

-- ---- the page in the memory

page_more : (first : Image) (so_far : GivenSoFar) (m : Image) (place : Place) (content : List ℕ) → m ≡ with_round first (given_pages first so_far)
    → with_page m place content ≡ with_round first (given_pages first (with_more (page_record place content ∷ []) so_far))
page_more first so_far m place content is =
    let page : Page = record { place = place; content = content } in
    put_page_more first m (with_page m place content) (given_pages first so_far) page place content is refl refl refl
    ∙ ap (λ (l : List Page). with_round first l) (given_more first.table.page_size so_far (page_record place content ∷ []))

-- the records that the memory has are those that were read
has_read : (given : LoadSettings) (first : Image) (text : List ℕ) (so_far : GivenSoFar) (p : Paused) (m : Image) (n : ℕ)
    → IsOfTable given first.table text → PausesAt (settings_of first given) text so_far p
    → HasRecordsOnto given first text m n
    → (m ≡ with_round first (given_pages first (all_given (all_read so_far p.progress)))) × (n ≡ length (all_read so_far p.progress).rounds)
has_read given first text so_far p m n own at has =
    let single : Settings = settings_of first given in
    let c : StreamProgress = all_read so_far p.progress in
    let from : StreamProgress = start single.frame single.mode single.page_size single.limit single.waiting in
    let same = one_reading from text has.is_reading.to c has.is_reading.rest p.pending has.reading.state Reading
    has.is_reading.reads (reads_at single text so_far p at) in
    let rounds : has.reading.rounds ≡ c.rounds = has.is_reading.has_rounds ∙ ap (λ (x : StreamProgress). x.rounds) same.0 in
    let records : has.is_reading.to.records ≡ c.records = ap (λ (x : StreamProgress). x.records) same.0 in
    let both = has.own (own_of given first text has.reading at.is_page_size has.is_reading own) in (
      both.0
          ∙ ap (λ (l : List (List PageRecord)). with_round (with_rounds first (map (pages_on first) l)) (pages_on first has.is_reading.to.records)) rounds
          ∙ ap (λ (l : List PageRecord). with_round (with_rounds first (map (pages_on first) c.rounds)) (pages_on first l)) records
          ∙ put_after first (all_pages (map (pages_on first) c.rounds)) (pages_on first c.records),
      both.1 ∙ ap (λ (l : List (List PageRecord)). length l) rounds,
    )

records_taken : (given : LoadSettings) (first : Image)
    (text content : List ℕ) (so_far : GivenSoFar) (p : Paused) (place : Place) (m : Image) (n : ℕ) → IsOfTable given first.table text → page_due p ≡ Some place
    → length content ≡ p.progress.page_size → PausesAt (settings_of first given) text so_far p
    → HasRecordsOnto given first text m n → HasRecordsOnto given first (text ++ content) (with_page m place content) n
records_taken given first text content so_far p place m n own due len at has =
    let single : Settings = settings_of first given in
    let then : GivenSoFar = with_content so_far p place content in
    let gives : PausesAt single (text ++ content) then (after_page p content) = took single text content so_far p place due len at in
    let reading : HasReading single (text ++ content) then Reading =
    ends_so single (text ++ content) then (giver_at (after_page p content)) Reading refl refl refl gives in
    let had = has_read given first text so_far p m n own at has in
    records_onto given first (text ++ content) then Reading (with_page m place content) n at.is_page_size
    (inr (table_stays given first.table text content so_far p place own due len at)) reading
    (page_more first (all_given (all_read so_far p.progress)) m place content had.0) had.1

-- ---- what comes next

brings_page : (given : LoadSettings) (first : Image) (text : List ℕ) (p : Paused) (m : Image) (n : ℕ) (place : Place)
    → page_due p ≡ Some place → PausesOnto given first text p m n → BringsPage given first text place
brings_page given first text p m n place due at =
    let single : Settings = settings_of first given in
    let size : p.progress.page_size ≡ first.table.page_size = gave_of given first.table text at.so_far p at.pauses in
    record {
      is_place = page_there given first.table text at.so_far p place at.is_own due at.pauses;
      reads_on = λ content len.
          let whole : length content ≡ p.progress.page_size = len ∙ sym size in
          on_at given first (text ++ content) (with_content at.so_far p place content) (after_page p content)
          (inr (table_stays given first.table text content at.so_far p place at.is_own due whole at.pauses))
          (took single text content at.so_far p place due whole at.pauses);
      takes = λ memory sections content len has. records_taken given first text content at.so_far p place memory sections
          at.is_own due (len ∙ sym size) at.pauses has;
    }

needs_bytes : (given : LoadSettings) (first : Image) (text : List ℕ) (p : Paused) (m : Image) (n k : ℕ) → AreWanted p k
    → PausesOnto given first text p m n → NeedsBytes given first text k
needs_bytes given first text p m n k are at = record {
  is_some = are.is_some;
  reads_on = λ more few. on_more given first text more at.so_far p (are.are_wanted more few) at.is_own at.pauses;
  same_place = λ more place few valid. valid_at_more (settings_of first given) text more at.so_far p place (are.are_wanted more few) at.pauses valid;
}

-- what a pause says of it
abbrev pub PauseWants : Paused → Wanted → Type 0
PauseWants p w = MatchOption (page_due p) ((k : ℕ) × (w ≡ wanted.Bytes k) × AreWanted p k) (λ place. w ≡ wanted.Page place)

-- a load asks for the page that its pause waits for
pub asks : (p : Paused) (w : Wanted) → PauseWants p w → page_asked (Some w) ≡ page_due p
asks p w is = go (page_due p) is
  where
    go : (o : Option Place) → MatchOption o ((k : ℕ) × (w ≡ wanted.Bytes k) × AreWanted p k) (λ place. w ≡ wanted.Page place) → page_asked (Some w) ≡ o
    go None none = ap (λ (x : Wanted). page_asked (Some x)) none.1
    go (Some place) some = ap (λ (x : Wanted). page_asked (Some x)) some

-- the page that is asked for is the one that is due
pub page_of_wanted : (p : Paused) (w : Wanted) (place : Place) → PauseWants p w → w ≡ wanted.Page place → page_due p ≡ Some place
page_of_wanted p w place is e = sym (asks p w is) ∙ ap (λ (x : Wanted). page_asked (Some x)) e

-- if a page is due, the load asks for it
pub wanted_is : (p : Paused) (w : Wanted) (place : Place) → PauseWants p w → page_due p ≡ Some place → w ≡ wanted.Page place
wanted_is p w place is due = subst (λ (o : Option Place). MatchOption o ((k : ℕ) × (w ≡ wanted.Bytes k) × AreWanted p k) (λ q. w ≡ wanted.Page q)) due is

-- what the load asks for is what comes next of its stream
pub next_is : (given : LoadSettings) (first : Image) (text : List ℕ) (p : Paused) (m : Image) (n : ℕ) (w : Wanted)
    → PauseWants p w → PausesOnto given first text p m n → ComesNext given first text (Some w)
next_is given first text p m n w is at = go (page_due p) refl is
  where
    go : (o : Option Place) → page_due p ≡ o
        → MatchOption o ((k : ℕ) × (w ≡ wanted.Bytes k) × AreWanted p k) (λ place. w ≡ wanted.Page place) → ComesNext given first text (Some w)
    go None due none = subst (λ (x : Wanted). ComesNext given first text (Some x)) (sym none.1) (needs_bytes given first text p m n none.0 none.2 at)
    go (Some place) due some = subst (λ (x : Wanted). ComesNext given first text (Some x)) (sym some) (brings_page given first text p m n place due at)

-- where it isn't read on
pub next_none : (given : LoadSettings) (first : Image) (text : List ℕ) (m : Image) (n : ℕ) (found : LoadState)
    → IsTable first.table → StandsOnto given first text m n None found → ComesNext given first text None
next_none given first text m n (load_state.Stream found at) is st = λ on.
    st.is_in_state.1 (sym st.is_in_state.2 ∙ (still_open given first text st.has_records.reading is.has_page_size st.has_records.is_reading on).0)
next_none given first text m n load_state.OtherTable is st = λ on.
    apart first st.has_records.reading (still_open given first text st.has_records.reading is.has_page_size st.has_records.is_reading on).1 st.is_in_state
next_none given first text m n load_state.NoMemory is st = absurd st.is_in_state

-- the page that is wanted lies in the table
pub wanted_there : (given : LoadSettings) (table : RamTable) (p : Paused) (n fed : ℕ) → PausesSome given table p n fed
    → IfSome (page_due p) (λ place. IsPlace table place)
wanted_there given table p n fed some = go (page_due p) refl
  where
    go : (o : Option Place) → page_due p ≡ o → IfSome o (λ place. IsPlace table place)
    go None due = tt
    go (Some place) due = page_there given table some.text some.so_far p place some.is_own due some.pauses

-- ---- a page that was taken

-- what a pause stands for after the content of its page
abbrev pub TakesPage : Paused → Paused → Place → List ℕ → Type 0
TakesPage p q place content = (given : Settings) (text : List ℕ) (so_far : GivenSoFar) → PausesAt given text so_far p
    → PausesAt given (text ++ content) (with_more (page_record place content ∷ []) so_far) q

stands_taken : (given : LoadSettings) (first : Image) (text content : List ℕ)
    (p q : Paused) (place : Place) (m : Image) (n : ℕ) (found : LoadState) → page_due p ≡ Some place → length content ≡ first.table.page_size
    → TakesPage p q place content → StandsOnto given first text m n (Some p) found → (k : ℕ) → IsValidUpTo (settings_of first given) (text ++ content) k
    → StandsOnto given first (text ++ content) (with_page m place content) n (Some q) (load_state.Stream Reading k)
stands_taken given first text content p q place m n found due len taken st k valid =
    let at : PausesOnto given first text p m n = st.pauses in
    let whole : length content ≡ p.progress.page_size = len ∙ sym (gave_of given first.table text at.so_far p at.pauses) in
    let own : IsOfTable given first.table (text ++ content) =
    inr (table_stays given first.table text content at.so_far p place at.is_own due whole at.pauses) in
    let has : HasRecordsOnto given first (text ++ content) (with_page m place content) n =
    records_taken given first text content at.so_far p place m n at.is_own due whole at.pauses st.has_records in
    let then : GivenSoFar = with_more (page_record place content ∷ []) at.so_far in
    let pauses : PausesAt (settings_of first given) (text ++ content) then q = taken (settings_of first given) text at.so_far at.pauses in
    let open_ = still_open given first (text ++ content) has.reading at.pauses.is_page_size has.is_reading
    (on_at given first (text ++ content) then q own pauses) in
    record {
      has_records = has;
      pauses = record {
        so_far = then;
        pauses = pauses;
        is_own = own;
        has_memory = page_more first at.so_far m place content at.has_memory;
        has_sections = at.has_sections;
      };
      is_in_state = (open_.1, refl, open_.0);
      is_read_to = valid;
    }

-- the place of that page is named, too
page_named : (first : Image) (so_far : GivenSoFar) (place : Place) (content : List ℕ) (s : PlaceSet) → HasPlaces first.table (given_places first so_far) s
    → HasPlaces first.table (given_places first (with_more (page_record place content ∷ []) so_far)) (with_place s place)
page_named first so_far place content s names =
    place_added first.table (given_places first so_far) s (with_place s place) place names refl
    ∙ ap (λ (l : List Place). record { table = first.table; marked = places_where first.table (has_place l) })
    (sym (map-append (λ (x : Page). x.place) (given_pages first so_far) (record { place = place; content = content } ∷ []))
    ∙ ap (λ (l : List Page). places_of l) (given_more first.table.page_size so_far (page_record place content ∷ [])))

-- the places that are named are those of all that was read
named_read : (given : LoadSettings) (first : Image) (text : List ℕ) (so_far : GivenSoFar) (p : Paused) (s : PlaceSet)
    → IsOfTable given first.table text → PausesAt (settings_of first given) text so_far p
    → HasNamedOnto given first text s → HasPlaces first.table (given_places first (all_given (all_read so_far p.progress))) s
named_read given first text so_far p s own at has =
    let single : Settings = settings_of first given in
    let c : StreamProgress = all_read so_far p.progress in
    let from : StreamProgress = start single.frame single.mode single.page_size single.limit single.waiting in
    let same = one_reading from text has.is_reading.to c has.is_reading.rest p.pending has.reading.state Reading
    has.is_reading.reads (reads_at single text so_far p at) in
    let rounds : has.reading.rounds ≡ c.rounds = has.is_reading.has_rounds ∙ ap (λ (x : StreamProgress). x.rounds) same.0 in
    let records : has.is_reading.to.records ≡ c.records = ap (λ (x : StreamProgress). x.records) same.0 in
    has.own (own_of given first text has.reading at.is_page_size has.is_reading own)
    ∙ ap (λ (l : List (List PageRecord)). record {
      table = first.table;
      marked = places_where first.table (has_place (places_of (pages_of_all first l has.is_reading.to.records)));
    }) rounds
    ∙ ap (λ (l : List PageRecord). record {
      table = first.table;
      marked = places_where first.table (has_place (places_of (pages_of_all first c.rounds l)));
    }) records

names_taken : (given : LoadSettings) (first : Image) (text content : List ℕ) (p q : Paused) (place : Place) (s : PlaceSet) (n : ℕ)
    → page_due p ≡ Some place → length content ≡ first.table.page_size
    → TakesPage p q place content → Names given first text s n (Some p) → Names given first (text ++ content) (with_place s place) n (Some q)
names_taken given first text content p q place s n due len taken names =
    let single : Settings = settings_of first given in
    let at : NamesAt given first text p s n = names.at_pause in
    let whole : length content ≡ p.progress.page_size = len ∙ sym (gave_of given first.table text at.so_far p at.pauses) in
    let own : IsOfTable given first.table (text ++ content) =
    inr (table_stays given first.table text content at.so_far p place at.is_own due whole at.pauses) in
    let then : GivenSoFar = with_content at.so_far p place content in
    let gives : PausesAt single (text ++ content) then (after_page p content) = took single text content at.so_far p place due whole at.pauses in
    let reading : HasReading single (text ++ content) then Reading =
    ends_so single (text ++ content) then (giver_at (after_page p content)) Reading refl refl refl gives in
    record {
      has_named = named_onto given first (text ++ content) then Reading (with_place s place) at.pauses.is_page_size own reading
          (page_named first (all_given (all_read at.so_far p.progress)) place content s
          (named_read given first text at.so_far p s at.is_own at.pauses names.has_named));
      at_pause = record {
        so_far = with_more (page_record place content ∷ []) at.so_far;
        pauses = taken single text at.so_far at.pauses;
        is_own = own;
        has_named = page_named first at.so_far place content s at.has_named;
        has_sections = at.has_sections;
      };
    }

-- if a page is due at a load's pause, and its content is taken, the load loads the stream with
-- these bytes more, and its memory has the page
pub in_place_taken : (memory : Image) (given : LoadSettings) (first : Image) (s : LoadInPlace) (text content : List ℕ)
    (p q : Paused) (place : Place) (k : ℕ) → s.pause ≡ Some p → page_due p ≡ Some place → length content ≡ s.table.page_size
    → s.fed + length content < 2 ^ 63 → TakesPage p q place content
    → PauseTells q (λ given text so_far. length text < 2 ^ 64 → IsValidUpTo given text k) → LoadsInPlace memory given first s text false
    → LoadsInPlace (with_page memory place content) given first
    (load_in_place (Some q) (load_state.Stream Reading k) s.table (with_place s.named place) s.rounds (s.fed + length content) s.ended) (text ++ content) false
in_place_taken memory given first s text content p q place k is due len room taken valid loads =
    let st : StandsOnto given first text memory s.rounds (Some p) s.state =
    subst (λ (o : Option Paused). StandsOnto given first text memory s.rounds o s.state) is loads.stands in
    let at : PausesOnto given first text p memory s.rounds = st.pauses in
    let then : GivenSoFar = with_more (page_record place content ∷ []) at.so_far in
    let few : length (text ++ content) < 2 ^ 64 = omega (arith, room, loads.has_fed, length-append text content) in
    let size : length content ≡ first.table.page_size = len ∙ ap (λ (t : RamTable). t.page_size) (sym loads.same_table) in
    in_place_on memory (with_page memory place content) given first s text content (Some q) (load_state.Stream Reading k)
    (with_place s.named place) s.rounds loads
    (stands_taken given first text content p q place memory s.rounds s.state due size taken st k
    (valid (settings_of first given) (text ++ content) then (taken (settings_of first given) text at.so_far at.pauses) few))
    (names_taken given first text content p q place s.named s.rounds due size taken
    (subst (λ (o : Option Paused). Names given first text s.named s.rounds o) is loads.names))

-- a page that was taken leaves the load with what it has of the stream
pub some_taken : (given : LoadSettings) (table : RamTable) (content : List ℕ) (p q : Paused) (place : Place) (n fed : ℕ)
    → page_due p ≡ Some place → length content ≡ table.page_size → TakesPage p q place content
    → PausesSome given table p n fed → PausesSome given table q n (fed + length content)
some_taken given table content p q place n fed due len taken some =
    let whole : length content ≡ p.progress.page_size = len ∙ sym (gave_of given table some.text some.so_far p some.pauses) in
    record {
      text = some.text ++ content;
      has_fed = ap (λ (k : ℕ). k + length content) some.has_fed ∙ sym (length-append some.text content);
      so_far = with_more (page_record place content ∷ []) some.so_far;
      pauses = taken (settings_for table given) some.text some.so_far some.pauses;
      is_own = inr (table_stays given table some.text content some.so_far p place some.is_own due whole some.pauses);
      has_sections = some.has_sections;
    }

-- ---- the two calls

-- each page that there is
pub each_some : {X : Type 0} (o : Option X) (P : X → Type 0) → ((x : X) → o ≡ Some x → P x) → IfSome o P
each_some {X} None P h = tt
each_some {X} (Some x) P h = h x refl

-- an answer that is there is some value
pub there_is : {X : Type 0} (o : Option X) → IsSome o → (x : X) × (o ≡ Some x)
there_is {X} None some = absurd cc
there_is {X} (Some x) some = (x, refl)

-- a page that a load asks for lies in its table
pub place_wanted : (s : LoadInPlace) → IsLoadInPlace s → IfSome (page_wanted s) (λ place. IsPlace s.table place)
place_wanted s is = go s.pause is.pauses
  where
    go : (o : Option Paused) → IfSome o (λ p. (given : LoadSettings) × PausesSome given s.table p s.rounds s.fed)
        → IfSome (option_and_then page_due o) (λ place. IsPlace s.table place)
    go None none = tt
    go (Some p) some = wanted_there some.0 s.table p s.rounds s.fed some.1
