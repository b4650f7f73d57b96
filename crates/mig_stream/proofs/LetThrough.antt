-- A closed stream is read so under each limit that none of its rounds passes.
use Rattle.std.proofs.Common.{◌≡◌, ◌≢◌, ◌%◌, ◌/◌, ◌<◌, ◌≤◌, eqb, ℕ, Bool, true, false, cond, List, [], ◌∷◌, ◌++◌, length, Option, Some, None, refl, sym, ap}
use Rattle.std.proofs.Common.{subst, ◌∙◌, inl, inr, arith}
use Rattle.std.specs.Prelude.{◌⊎◌, nat_le, slice_index}
use Rattle.std.specs.List.{All, list_all}
use Rattle.std.proofs.lemmas.Bool.{cases_Bool, cond_both, le-leb, lt-leb, and_left, and_right}
use Rattle.std.proofs.lemmas.List.{length-append}
use Rattle.std.proofs.lemmas.List.Elements.{All-head, All-tail}
use Rattle.std.proofs.lemmas.List.Folds.{list_all-append}
use Rattle.mig_mem.specs.First.{first_of}
use Rattle.mig_mem.specs.declared.place.Place.{Place}
use Rattle.mig_stream.specs.declared.item.Mode.{Mode}
use Rattle.mig_stream.specs.declared.item.Mode.TheVariants.{Single, Main, MainBySection, MainAsShown}
use Rattle.mig_stream.specs.declared.item.Filling.TheVariants.{Zero, Normal}
use Rattle.mig_stream.specs.declared.item.Due.{Due}
use Rattle.mig_stream.specs.declared.item.Due.TheVariants.{FileHeader, TypeByte, ConfigLength, ConfigName, StartHead, SectionHead, RecordHead, ListEntry}
use Rattle.mig_stream.specs.declared.item.Due.TheVariants.{PageSize, BlockName, Content, Footer, Passed, Nothing}
use Rattle.mig_stream.specs.declared.item.RecordKind.{RecordKind}
use Rattle.mig_stream.specs.declared.item.RecordKind.TheVariants.{SizeList, Named, Continued, EndOfSection, Flush}
use Rattle.mig_stream.specs.declared.item.StreamState.{StreamState}
use Rattle.mig_stream.specs.declared.item.StreamState.TheVariants.{Closed}
use Rattle.mig_stream.specs.declared.fault.StreamFault.{StreamFault}
use Rattle.mig_stream.specs.declared.fault.StreamFault.TheVariants.{Waiting}
use Rattle.mig_stream.specs.Fields.{be64_at}
use Rattle.mig_stream.specs.PageRecord.{PageRecord}
use Rattle.mig_stream.specs.Progress.{StreamProgress, whole_table}
use Rattle.mig_stream.specs.Items.{is_single, is_page_size, is_passed, record_kind, kind_faults, head_faults, record_faults, entry_faults, passed_faults}
use Rattle.mig_stream.specs.Items.{faults, first_fault, after_type, after_kind, after_head, after_record, after_entry, passed_by, after_item, after}
use Rattle.mig_stream.specs.Items.{with_record, is_start, has_none, flush_ends, flush_rounds, eos_records, eos_rounds, open_records, whole_rounds}
use Rattle.mig_stream.specs.Reading.{Settings, with_waiting, AreFaultless, after_all, Front, Ends}
use Rattle.mig_stream.specs.Flushed.{from}
use Rattle.mig_stream.specs.Limited.{LimitLetsThrough}
use Rattle.mig_stream.proofs.Between.{closed_is_empty}
use Rattle.mig_stream.proofs.Stopping.{over_is}
use Rattle.mig_stream.proofs.Plain.{main_due}
use Rattle.mig_stream.proofs.ClosedMain.{closed_has_none}
use Rattle.mig_stream.proofs.Room.{is_coming, is_waiting, waiting_is, FitsAt, fits_item, first_fits, no_room, full_item, never, sized, passed_unwaiting}
use Rattle.mig_stream.proofs.Unlimited.{freed, freed_item, freed_faults, freed_all}

-- ---- a round that is too long

abbrev is_few : ℕ → List PageRecord → Bool
is_few limit round = nat_le (length round) limit

-- A round is longer than the limit: a complete one, the open one, or the open one with the record
-- that was begun.
abbrev IsOver : ℕ → List (List PageRecord) → List PageRecord → Due → Type 0
IsOver limit rounds records due =
    (list_all (is_few limit) rounds ≡ false) ⊎ ((limit < length records) ⊎ ((is_coming due ≡ true) × (limit ≤ length records)))

abbrev IsOverAt : ℕ → StreamProgress → Type 0
IsOverAt limit c = IsOver limit c.rounds c.records c.due

-- without a record that was begun another item may be due
over_due : (limit : ℕ) (rounds : List (List PageRecord)) (records : List PageRecord) (d e : Due) → is_coming d ≡ false
    → IsOver limit rounds records d → IsOver limit rounds records e
over_due limit rounds records d e none (inl long) = inl long
over_due limit rounds records d e none (inr (inl long)) = inr (inl long)
over_due limit rounds records d e none (inr (inr coming)) = absurd (let clash : true ≡ false = sym coming.0 ∙ none in cc)

-- the open round is whole
over_ended : (limit : ℕ) (rounds : List (List PageRecord)) (records : List PageRecord) (d e : Due) → is_coming d ≡ false
    → IsOver limit rounds records d → IsOver limit (rounds ++ records ∷ []) [] e
over_ended limit rounds records d e none (inl long) =
    inl (list_all-append (is_few limit) rounds (records ∷ []) ∙ and_left (list_all (is_few limit) rounds) (list_all (is_few limit) (records ∷ [])) long)
over_ended limit rounds records d e none (inr (inl long)) =
    inl (list_all-append (is_few limit) rounds (records ∷ [])
    ∙ and_right (list_all (is_few limit) rounds) (list_all (is_few limit) (records ∷ []))
    (and_left (is_few limit records) true (lt-leb (length records) limit long)))
over_ended limit rounds records d e none (inr (inr coming)) = absurd (let clash : true ≡ false = sym coming.0 ∙ none in cc)

-- a FLUSH that ends no round follows no record
none_dropped : (m : Mode) (in_start : Bool) (records : List PageRecord) → flush_ends m in_start (has_none records) ≡ false → records ≡ []
none_dropped m in_start [] e = refl
none_dropped Single in_start (r ∷ records) e = absurd cc
none_dropped Main in_start (r ∷ records) e = absurd cc
none_dropped MainBySection in_start (r ∷ records) e = absurd cc
none_dropped MainAsShown true (r ∷ records) e = absurd cc
none_dropped MainAsShown false (r ∷ records) e = absurd cc

over_dropped : (limit : ℕ) (rounds : List (List PageRecord)) (records : List PageRecord) (d e : Due) → is_coming d ≡ false
    → records ≡ [] → IsOver limit rounds records d → IsOver limit rounds [] e
over_dropped limit rounds records d e none empty (inl long) = inl long
over_dropped limit rounds records d e none empty (inr (inl long)) = absurd (omega (arith, long, ap (λ (l : List PageRecord). length l) empty))
over_dropped limit rounds records d e none empty (inr (inr coming)) = absurd (let clash : true ≡ false = sym coming.0 ∙ none in cc)

over_flush : (ends : Bool) (limit : ℕ) (rounds : List (List PageRecord)) (records : List PageRecord) (d e : Due)
    → is_coming d ≡ false → (ends ≡ false → records ≡ []) → IsOver limit rounds records d
    → IsOver limit (flush_rounds ends rounds records) [] e
over_flush true limit rounds records d e none dropped over = over_ended limit rounds records d e none over
over_flush false limit rounds records d e none dropped over = over_dropped limit rounds records d e none (dropped refl) over

over_eos : (m : Mode) (limit : ℕ) (rounds : List (List PageRecord)) (records : List PageRecord) (d e : Due) → is_coming d ≡ false
    → IsOver limit rounds records d
    → IsOver limit (eos_rounds m rounds records) (eos_records m records) e
over_eos Single limit rounds records d e none over = over_due limit rounds records d e none over
over_eos Main limit rounds records d e none over = over_due limit rounds records d e none over
over_eos MainBySection limit rounds records d e none over = over_ended limit rounds records d e none over
over_eos MainAsShown limit rounds records d e none over = over_ended limit rounds records d e none over

over_section : (m : Mode) (limit : ℕ) (rounds : List (List PageRecord)) (records : List PageRecord) (d e : Due)
    → is_coming d ≡ false → IsOver limit rounds records d
    → IsOver limit (whole_rounds m rounds records) (open_records m records) e
over_section Single limit rounds records d e none over = over_ended limit rounds records d e none over
over_section Main limit rounds records d e none over = over_due limit rounds records d e none over
over_section MainBySection limit rounds records d e none over = over_due limit rounds records d e none over
over_section MainAsShown limit rounds records d e none over = over_due limit rounds records d e none over

-- a record that was begun is there
over_record : (limit : ℕ) (c : StreamProgress) (place : Place) (content : Option (List ℕ)) → IsOverAt limit c → IsOverAt limit (with_record c place content)
over_record limit c place content (inl long) = inl long
over_record limit c place content (inr (inl long)) = inr (inl (omega (arith, long, length-append c.records (record { place = place; content = content } ∷ []))))
over_record limit c place content (inr (inr coming)) =
    inr (inl (omega (arith, coming.1, length-append c.records (record { place = place; content = content } ∷ []))))

-- ---- an item

over_type : (limit : ℕ) (c : StreamProgress) (byte : ℕ) → is_coming c.due ≡ false → IsOverAt limit c → IsOverAt limit (after_type c byte)
over_type limit c byte none over =
    let other : (e : Due) → IsOver limit c.rounds c.records e = λ e. over_due limit c.rounds c.records c.due e none over in
    cond_both (eqb byte 7) _ _ (IsOverAt limit) (λ _. other ConfigLength) (λ _.
    cond_both (eqb byte 1) _ _ (IsOverAt limit) (λ _. other StartHead) (λ _.
    cond_both (eqb byte 2) _ _ (IsOverAt limit) (λ _. other SectionHead) (λ _.
    cond_both (eqb byte 3) _ _ (IsOverAt limit) (λ _. other SectionHead) (λ _. other Nothing))))

over_kind : (limit : ℕ) (c : StreamProgress) (kind : RecordKind) (page : ℕ) → is_coming c.due ≡ false → IsOverAt limit c
    → IsOverAt limit (after_kind c kind page)
over_kind limit c SizeList page none over = over_due limit c.rounds c.records c.due (after_kind c SizeList page).due none over
over_kind limit c (Named filling) page none over = over_due limit c.rounds c.records c.due (after_kind c (Named filling) page).due none over
over_kind limit c (Continued filling) page none over = over_due limit c.rounds c.records c.due (after_kind c (Continued filling) page).due none over
over_kind limit c EndOfSection page none over = over_eos c.mode limit c.rounds c.records c.due Footer none over
over_kind limit c Flush page none over =
    over_flush (flush_ends c.mode (is_start c.section) (has_none c.records)) limit c.rounds c.records c.due RecordHead none
    (none_dropped c.mode (is_start c.section) c.records) over

over_head : (limit : ℕ) (c : StreamProgress) (kind : Option RecordKind) (page : ℕ) → is_coming c.due ≡ false → IsOverAt limit c
    → IsOverAt limit (after_head c kind page)
over_head limit c None page none over = over
over_head limit c (Some kind) page none over = over_kind limit c kind page none over

over_item : (limit : ℕ) (c : StreamProgress) (d : Due) (item : List ℕ) → c.due ≡ d → IsOverAt limit c → IsOverAt limit (after_item c d item)
over_item limit c FileHeader item here over = over_due limit c.rounds c.records c.due (after_item c FileHeader item).due (ap is_coming here) over
over_item limit c (TypeByte b) item here over =
    cond_both (is_passed c.frame c.section b (slice_index item 0)) _ _ (IsOverAt limit)
    (λ _. over_due limit c.rounds c.records c.due (record c { due = Passed (passed_by b (slice_index item 0)) }).due (ap is_coming here) over)
    (λ _. over_type limit c (slice_index item 0) (ap is_coming here) over)
over_item limit c ConfigLength item here over = over_due limit c.rounds c.records c.due (after_item c ConfigLength item).due (ap is_coming here) over
over_item limit c (ConfigName n) item here over = over_due limit c.rounds c.records c.due (after_item c (ConfigName n) item).due (ap is_coming here) over
over_item limit c StartHead item here over = over_due limit c.rounds c.records c.due (after_item c StartHead item).due (ap is_coming here) over
over_item limit c SectionHead item here over = over_due limit c.rounds c.records c.due (after_item c SectionHead item).due (ap is_coming here) over
over_item limit c RecordHead item here over =
    over_head limit c (record_kind (be64_at 0 item % c.page_size)) (be64_at 0 item / c.page_size) (ap is_coming here) over
over_item limit c ListEntry item here over = over_due limit c.rounds c.records c.due (after_item c ListEntry item).due (ap is_coming here) over
over_item limit c (PageSize true) item here over =
    cond_both (is_page_size item) _ _ (IsOverAt limit) (λ _. over_due limit c.rounds c.records c.due RecordHead (ap is_coming here) over)
    (λ _. over_head limit c (record_kind (be64_at 0 item % c.page_size)) (be64_at 0 item / c.page_size) (ap is_coming here) over)
over_item limit c (PageSize false) item here over =
    cond_both (is_page_size item) _ _ (IsOverAt limit) (λ _. over_due limit c.rounds c.records c.due ListEntry (ap is_coming here) over)
    (λ _. over_due limit c.rounds c.records c.due (after_entry c item).due (ap is_coming here) over)
over_item limit c (BlockName filling page) item here (inl long) = inl long
over_item limit c (BlockName filling page) item here (inr (inl long)) = inr (inl long)
over_item limit c (BlockName filling page) item here (inr (inr coming)) = inr (inr (refl, coming.1))
over_item limit c (Content Zero place) item here over = over_record limit c place None over
over_item limit c (Content Normal place) item here over = over_record limit c place (Some item) over
over_item limit c Footer item here over = over_section c.mode limit c.rounds c.records c.due (after_item c Footer item).due (ap is_coming here) over
over_item limit c (Passed p) item here over = over_due limit c.rounds c.records c.due (after_item c (Passed p) item).due (ap is_coming here) over
over_item limit c Nothing item here over = over

over_all : (limit : ℕ) (c : StreamProgress) (items : List (List ℕ)) → IsOverAt limit c → IsOverAt limit (after_all c items)
over_all limit c [] over = over
over_all limit c (item ∷ items) over = over_all limit (after c item) items (over_item limit c c.due item refl over)

-- ---- the item at which a limit is passed begins a record

begins_kind : (c : StreamProgress) (kind : RecordKind) (page : ℕ) → first_of (kind_faults c kind page) ≡ Some Waiting
    → (is_coming (after_kind (freed c) kind page).due ≡ true) × ((after_kind (freed c) kind page).records ≡ c.records)
begins_kind c SizeList page e = absurd (never (kind_faults c SizeList page) refl e)
begins_kind c (Named filling) page e = (refl, refl)
begins_kind c (Continued filling) page e = (refl, refl)
begins_kind c EndOfSection page e = absurd (never (kind_faults c EndOfSection page) refl e)
begins_kind c Flush page e = absurd (never (kind_faults c Flush page) refl e)

begins_head : (c : StreamProgress) (flags : ℕ) (kind : Option RecordKind) (page : ℕ) → first_of (head_faults c flags kind page) ≡ Some Waiting
    → (is_coming (after_head (freed c) kind page).due ≡ true) × ((after_head (freed c) kind page).records ≡ c.records)
begins_head c flags None page e = absurd cc
begins_head c flags (Some kind) page e = begins_kind c kind page e

begins_sized : (b : Bool) (c : StreamProgress) (item : List ℕ) → first_of (cond b [] (record_faults c item)) ≡ Some Waiting
    → (is_coming (cond b (record (freed c) { due = RecordHead }) (after_record (freed c) item)).due ≡ true)
    × ((cond b (record (freed c) { due = RecordHead }) (after_record (freed c) item)).records ≡ c.records)
begins_sized true c item e = absurd cc
begins_sized false c item e = begins_head c (be64_at 0 item % c.page_size) (record_kind (be64_at 0 item % c.page_size)) (be64_at 0 item / c.page_size) e

begins_item : (c : StreamProgress) (d : Due) (item : List ℕ) → first_of (faults c d item) ≡ Some Waiting
    → (is_coming (after_item (freed c) d item).due ≡ true) × ((after_item (freed c) d item).records ≡ c.records)
begins_item c FileHeader item e = absurd (never (faults c FileHeader item) refl e)
begins_item c (TypeByte b) item e = absurd (never (faults c (TypeByte b) item) refl e)
begins_item c ConfigLength item e = absurd (never (faults c ConfigLength item) refl e)
begins_item c (ConfigName n) item e = absurd (never (faults c (ConfigName n) item) refl e)
begins_item c StartHead item e = absurd (never (faults c StartHead item) refl e)
begins_item c SectionHead item e = absurd (never (faults c SectionHead item) refl e)
begins_item c RecordHead item e = begins_head c (be64_at 0 item % c.page_size) (record_kind (be64_at 0 item % c.page_size)) (be64_at 0 item / c.page_size) e
begins_item c ListEntry item e = absurd (never (faults c ListEntry item) refl e)
begins_item c (PageSize true) item e = begins_sized (is_page_size item) c item e
begins_item c (PageSize false) item e = absurd (never (entry_faults c item) refl (sized (is_page_size item) (entry_faults c item) e))
begins_item c (BlockName filling page) item e = absurd (never (faults c (BlockName filling page) item) refl e)
begins_item c (Content Zero place) item e = absurd (never (faults c (Content Zero place) item) refl e)
begins_item c (Content Normal place) item e = absurd (never (faults c (Content Normal place) item) refl e)
begins_item c Footer item e = absurd (never (faults c Footer item) refl e)
begins_item c (Passed p) item e = absurd (never (passed_faults c.page_size c.form p item) (passed_unwaiting c.page_size c.form p item) e)
begins_item c Nothing item e = absurd (never (faults c Nothing item) refl e)

-- ---- all items are let through

is_that : (f : StreamFault) → (f ≡ Waiting) ⊎ (f ≢ Waiting)
is_that f = elim (cases_Bool (is_waiting f)) [
  | inl t ↦ inl (waiting_is f t)
  | inr n ↦ inr (λ e. absurd (let clash : true ≡ false = sym (ap is_waiting e) ∙ n in cc))
]

lets_item : (limit : ℕ) (c : StreamProgress) (item : List ℕ) → FitsAt limit c → first_fault (freed c) item ≡ None
    → (IsOverAt limit (after (freed c) item) → ⊥) → (o : Option StreamFault) → first_fault c item ≡ o → first_fault c item ≡ None
lets_item limit c item f free never_over None e = e
lets_item limit c item f free never_over (Some g) e = elim (is_that g) [
  | inr other ↦ absurd (
      let same : first_fault (freed c) item ≡ Some g = freed_faults c c.due item (Some g) e (λ o. other (let w : g ≡ Waiting = cc in w)) in
      let clash : None ≡ Some g = sym free ∙ same in cc)
  | inl that ↦ absurd (
      let here : first_fault c item ≡ Some Waiting = e ∙ ap (λ (x : StreamFault). Some x) that in
      let begun = begins_item c c.due item here in
      let full : length c.records ≡ limit = no_room limit c f (full_item c c.due item here) in
      never_over (inr (inr (begun.0, omega (arith, full, ap (λ (l : List PageRecord). length l) begun.1)))))
]

lets_all : (limit : ℕ) (c : StreamProgress) (items : List (List ℕ)) → FitsAt limit c → AreFaultless (freed c) items
    → (IsOverAt limit (after_all (freed c) items) → ⊥) → AreFaultless c items
lets_all limit c [] f free never_over = tt
lets_all limit c (item ∷ items) f free never_over =
    let here : first_fault c item ≡ None = lets_item limit c item f free.1
    (λ over. never_over (over_all limit (after (freed c) item) items over)) (first_fault c item) refl in
    let there : after (freed c) item ≡ freed (after c item) = freed_item c c.due item in (
      record { is_due = free.0.is_due; is_whole = free.0.is_whole },
      here,
      lets_all limit (after c item) items (fits_item limit c c.due item refl f here) (subst (λ (x : StreamProgress). AreFaultless x items) there free.2)
          (subst (λ (x : StreamProgress). IsOverAt limit (after_all x items) → ⊥) there never_over),
    )

-- a closed stream has no open round
closed_none : (given : Settings) (front : List ℕ) (to : StreamProgress) (rest : List ℕ) → Front (from given) front to → Ends to rest Closed → to.records ≡ []
closed_none given front to rest leads closed = by_mode given.mode refl
  where
    by_main : is_single given.mode ≡ false → to.records ≡ []
    by_main main = closed_has_none given.frame given.mode given.page_size given.limit given.waiting front to main leads
        (main_due given front to rest main leads closed)

    by_mode : (m : Mode) → given.mode ≡ m → to.records ≡ []
    by_mode Single e = closed_is_empty given.frame given.mode given.page_size given.limit given.waiting front to rest e leads closed
    by_mode Main e = by_main (ap is_single e)
    by_mode MainBySection e = by_main (ap is_single e)
    by_mode MainAsShown e = by_main (ap is_single e)

-- nor is a page due
closed_coming : (c : StreamProgress) (rest : List ℕ) → Ends c rest Closed → is_coming c.due ≡ false
closed_coming c rest (inl due) = ap is_coming due
closed_coming c rest (inr over) = ap is_coming (over_is c over.0 over.4).is_type

-- a stream that is closed without a limit is closed with one
kept_ends : (c : StreamProgress) (rest : List ℕ) → Ends (freed c) rest Closed → Ends c rest Closed
kept_ends c rest (inl due) = inl due
kept_ends c rest (inr over) = inr (over.0, over.1, over.2, record { is_due = over.3.is_due; is_whole = over.3.is_whole }, over.4)

all_few : (limit : ℕ) (rounds : List (List PageRecord)) → All (λ (round : List PageRecord). length round ≤ limit) rounds → list_all (is_few limit) rounds ≡ true
all_few limit [] all = refl
all_few limit (round ∷ rounds) all =
    rw (le-leb (length round) limit (All-head (λ (r : List PageRecord). length r ≤ limit) round rounds all))
    (all_few limit rounds (All-tail (λ (r : List PageRecord). length r ≤ limit) round rounds all))

not_over : (limit : ℕ) (c : StreamProgress) → All (λ (round : List PageRecord). length round ≤ limit) c.rounds → c.records ≡ []
    → is_coming c.due ≡ false → IsOverAt limit c → ⊥
not_over limit c few none closed (inl long) = absurd (let clash : true ≡ false = sym (all_few limit c.rounds few) ∙ long in cc)
not_over limit c few none closed (inr (inl long)) = omega (arith, long, ap (λ (l : List PageRecord). length l) none)
not_over limit c few none closed (inr (inr coming)) = absurd (let clash : true ≡ false = sym coming.0 ∙ closed in cc)

-- a closed stream whose rounds are within the limit is read under it as without it
pub through_law : LimitLetsThrough
through_law given limit text reading waits is closed few =
    let ends : Ends is.to is.rest Closed = subst (λ (s : StreamState). Ends is.to is.rest s) closed is.reads.ends in
    let never_over : IsOverAt limit is.to → ⊥ =
    not_over limit is.to (subst (λ (r : List (List PageRecord)). All (λ (round : List PageRecord). length round ≤ limit) r) is.has_rounds few)
    (closed_none (with_waiting None given) is.reads.front is.to is.rest is.reads.leads ends) (closed_coming is.to is.rest ends) in
    let items : List (List ℕ) = is.reads.leads.items in
    let free : AreFaultless (from given) items =
    lets_all limit (from given) items (first_fits given limit waits) is.reads.leads.are_faultless
    (subst (λ (x : StreamProgress). IsOverAt limit x → ⊥) is.reads.leads.leads_to never_over) in
    let to : StreamProgress = after_all (from given) items in
    let same : is.to ≡ freed to = is.reads.leads.leads_to ∙ freed_all (from given) items in
    record {
      to = to;
      rest = is.rest;
      reads = record {
        front = is.reads.front;
        has_text = is.reads.has_text;
        leads = record { items = items; has_bytes = is.reads.leads.has_bytes; are_faultless = free; leads_to = refl };
        ends = subst (λ (s : StreamState). Ends to is.rest s) (sym closed)
            (kept_ends to is.rest (subst (λ (x : StreamProgress). Ends x is.rest Closed) same ends));
      };
      has_table = is.has_table ∙ ap whole_table same;
      has_rounds = is.has_rounds ∙ ap (λ (x : StreamProgress). x.rounds) same;
    }
