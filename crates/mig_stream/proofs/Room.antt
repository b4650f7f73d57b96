-- How much room a limit leaves: as many records as the open round lacks.
use Rattle.std.proofs.Common.{◌≡◌, ◌==◌, ◌&&◌, ◌%◌, ◌/◌, eqb, ℕ, zero, suc, ◌+◌, ◌-◌, ◌≤◌, inl, inr, Bool, true, false, cond, List, [], ◌∷◌, ◌++◌, length}
use Rattle.std.proofs.Common.{Option, Some, None, refl, sym, ap, subst, ◌∙◌, arith, rules}
use Rattle.std.specs.Prelude.{◌⊎◌, not, is_none, slice_index}
use Rattle.std.specs.List.{All}
use Rattle.std.specs.Option.{unwrap_or}
use Rattle.std.proofs.lemmas.List.{length-append}
use Rattle.std.proofs.lemmas.List.Elements.{All-nil, All-cons, All-append}
use Rattle.std.proofs.lemmas.Bool.{cond_both, and_parts, eqb-true}
use Rattle.mig_mem.specs.First.{first_of}
use Rattle.mig_mem.specs.declared.place.Place.{Place}
use Rattle.mig_mem.specs.Place.{place_at}
use Rattle.mig_stream.specs.declared.item.Mode.{Mode}
use Rattle.mig_stream.specs.declared.item.Mode.TheVariants.{Single, Main, MainBySection, MainAsShown}
use Rattle.mig_stream.specs.declared.item.Filling.TheVariants.{Zero, Normal}
use Rattle.mig_stream.specs.declared.item.Before.{Before}
use Rattle.mig_stream.specs.declared.item.EntryForm.{EntryForm}
use Rattle.mig_stream.specs.declared.item.EntryForm.TheVariants.{Plain, Addressed, Sized}
use Rattle.mig_stream.specs.declared.item.Frame.{Frame}
use Rattle.mig_stream.specs.declared.item.Section.{Section}
use Rattle.mig_stream.specs.declared.item.Subsection.{Subsection}
use Rattle.mig_stream.specs.declared.item.Subsection.TheVariants.{PageBits, Uuid, Capabilities}
use Rattle.mig_stream.specs.declared.item.PassedItem.{PassedItem}
use Rattle.mig_stream.specs.declared.item.PassedItem.TheVariants.{Command, SubsectionHead, SubsectionBody, Capability, Address, Early}
use Rattle.mig_stream.specs.declared.item.EarlyPart.TheVariants as early
use Rattle.mig_stream.specs.declared.item.Due.{Due}
use Rattle.mig_stream.specs.declared.item.Due.TheVariants.{FileHeader, TypeByte, ConfigLength, ConfigName, StartHead, SectionHead, RecordHead, ListEntry}
use Rattle.mig_stream.specs.declared.item.Due.TheVariants.{PageSize, BlockName, Content, Footer, Passed, Nothing}
use Rattle.mig_stream.specs.declared.item.RecordKind.{RecordKind}
use Rattle.mig_stream.specs.declared.item.RecordKind.TheVariants.{SizeList, Named, Continued, EndOfSection, Flush}
use Rattle.mig_stream.specs.declared.fault.StreamFault.{StreamFault}
use Rattle.mig_stream.specs.declared.fault.StreamFault.TheVariants.{Waiting, SizePlace, NoBlock, OffsetOut}
use Rattle.mig_stream.specs.Fields.{be32_at, be64_at}
use Rattle.mig_stream.specs.PageRecord.{PageRecord}
use Rattle.mig_stream.specs.Progress.{StreamProgress}
use Rattle.mig_stream.specs.Items.{has_page, is_page_size, id_in, is_passed, is_full, subsection_of, body_of, capabilities_due, list_due, entry_due}
use Rattle.mig_stream.specs.Items.{behind_passed, after_footer, closes, record_kind, kind_faults, head_faults, record_faults, entry_faults, passed_faults}
use Rattle.mig_stream.specs.Items.{faults, after_type, after_type_byte, after_kind, after_head, after_entry, after_item, after, with_record, is_start, has_none}
use Rattle.mig_stream.specs.Items.{flush_ends, flush_rounds, eos_room, eos_records, eos_rounds, less_room, open_room, open_records, whole_rounds}
use Rattle.mig_stream.specs.Reading.{Settings, AreFaultless, after_all, Front}
use Rattle.mig_stream.specs.Flushed.{from}
use Rattle.mig_stream.specs.Limited.{WaitingIsBounded, FullRoundIsRefused}
use Rattle.mig_stream.proofs.Steps.{passed, not_size}

-- a page record was begun
abbrev pub is_coming : Due → Bool
is_coming (BlockName filling page) = true
is_coming (Content filling place) = true
is_coming other = false

-- The room of a limit is what the open round lacks, and there is some for a record that was begun.
pub record Fits (limit : ℕ) (waiting room : Option ℕ) (records : List PageRecord) (rounds : List (List PageRecord)) (due : Due) : Type 0 where
  pub waits : waiting ≡ Some limit
  pub left : ℕ
  pub is_left : room ≡ Some left
  pub adds : left + length records ≡ limit
  pub has_room : is_coming due ≡ true → 1 ≤ left
  pub are_few : All (λ (round : List PageRecord). length round ≤ limit) rounds

abbrev pub FitsAt : ℕ → StreamProgress → Type 0
FitsAt limit c = Fits limit c.waiting c.room c.records c.rounds c.due

-- another item is due, and no record is begun
fits_due : (limit : ℕ) (waiting room : Option ℕ) (records : List PageRecord) (rounds : List (List PageRecord)) (d e : Due)
    → Fits limit waiting room records rounds d → is_coming e ≡ false → Fits limit waiting room records rounds e
fits_due limit waiting room records rounds d e f none = record {
  waits = f.waits;
  left = f.left;
  is_left = f.is_left;
  adds = f.adds;
  has_room = λ coming. absurd (let clash : true ≡ false = sym coming ∙ none in cc);
  are_few = f.are_few;
}

-- the open round is whole
fits_ended : (limit : ℕ) (waiting room : Option ℕ) (records : List PageRecord) (rounds : List (List PageRecord)) (d e : Due)
    → Fits limit waiting room records rounds d → is_coming e ≡ false
    → Fits limit waiting waiting [] (rounds ++ records ∷ []) e
fits_ended limit waiting room records rounds d e f none = record {
  waits = f.waits;
  left = limit;
  is_left = f.waits;
  adds = omega arith;
  has_room = λ coming. absurd (let clash : true ≡ false = sym coming ∙ none in cc);
  are_few = All-append (λ (round : List PageRecord). length round ≤ limit) rounds (records ∷ []) f.are_few
      (All-cons (λ (round : List PageRecord). length round ≤ limit) records [] (omega (arith, f.adds))
      (All-nil (λ (round : List PageRecord). length round ≤ limit)));
}

-- it is dropped: its records are an empty round that no FLUSH ended
fits_flushed : (ends : Bool) (limit : ℕ) (waiting room : Option ℕ) (records : List PageRecord) (rounds : List (List PageRecord))
    (d e : Due) → Fits limit waiting room records rounds d → is_coming e ≡ false
    → Fits limit waiting waiting [] (flush_rounds ends rounds records) e
fits_flushed true limit waiting room records rounds d e f none = fits_ended limit waiting room records rounds d e f none
fits_flushed false limit waiting room records rounds d e f none = record {
  waits = f.waits;
  left = limit;
  is_left = f.waits;
  adds = omega arith;
  has_room = λ coming. absurd (let clash : true ≡ false = sym coming ∙ none in cc);
  are_few = f.are_few;
}

fits_eos : (m : Mode) (limit : ℕ) (waiting room : Option ℕ) (records : List PageRecord) (rounds : List
    (List PageRecord)) (d : Due) → Fits limit waiting room records rounds d
    → Fits limit waiting (eos_room m waiting room) (eos_records m records) (eos_rounds m rounds records) Footer
fits_eos Single limit waiting room records rounds d f = fits_due limit waiting room records rounds d Footer f refl
fits_eos Main limit waiting room records rounds d f = fits_due limit waiting room records rounds d Footer f refl
fits_eos MainBySection limit waiting room records rounds d f = fits_ended limit waiting room records rounds d Footer f refl
fits_eos MainAsShown limit waiting room records rounds d f = fits_ended limit waiting room records rounds d Footer f refl

footer_none : (frame : Frame) (kind : Section) → is_coming (after_footer frame kind) ≡ false
footer_none frame kind = cond_both (closes frame kind) _ _ (λ (d : Due). is_coming d ≡ false) (λ _. refl) (λ _. refl)

-- (the limit is there, so the room of a section that was opened is its own)
opened : (m : Mode) (limit : ℕ) (waiting room : Option ℕ) → waiting ≡ Some limit → open_room m waiting room ≡ open_room m (Some limit) room
opened m limit waiting room e = ap (λ (w : Option ℕ). open_room m w room) e

fits_section : (m : Mode) (limit : ℕ) (waiting room : Option ℕ) (records : List PageRecord) (rounds : List (List PageRecord))
    (d e : Due) → Fits limit waiting room records rounds d → is_coming e ≡ false
    → Fits limit waiting (open_room m waiting room) (open_records m records) (whole_rounds m rounds records) e
fits_section Single limit waiting room records rounds d e f none =
    let whole = fits_ended limit waiting room records rounds d e f none in
    subst (λ (r : Option ℕ). Fits limit waiting r [] (rounds ++ records ∷ []) e) (f.waits ∙ sym (opened Single limit waiting room f.waits)) whole
fits_section Main limit waiting room records rounds d e f none =
    subst (λ (r : Option ℕ). Fits limit waiting r records rounds e) (sym (opened Main limit waiting room f.waits))
    (fits_due limit waiting room records rounds d e f none)
fits_section MainBySection limit waiting room records rounds d e f none =
    subst (λ (r : Option ℕ). Fits limit waiting r records rounds e) (sym (opened MainBySection limit waiting room f.waits))
    (fits_due limit waiting room records rounds d e f none)
fits_section MainAsShown limit waiting room records rounds d e f none =
    subst (λ (r : Option ℕ). Fits limit waiting r records rounds e) (sym (opened MainAsShown limit waiting room f.waits))
    (fits_due limit waiting room records rounds d e f none)

-- ---- an item

fits_type : (limit : ℕ) (c : StreamProgress) (byte : ℕ) → FitsAt limit c → FitsAt limit (after_type c byte)
fits_type limit c byte f =
    let other : (e : Due) → is_coming e ≡ false
    → Fits limit c.waiting c.room c.records c.rounds e = λ e none. fits_due limit c.waiting c.room c.records c.rounds c.due e f none in
    cond_both (eqb byte 7) _ _ (FitsAt limit) (λ _. other ConfigLength refl) (λ _.
    cond_both (eqb byte 1) _ _ (FitsAt limit) (λ _. other StartHead refl) (λ _.
    cond_both (eqb byte 2) _ _ (FitsAt limit) (λ _. other SectionHead refl) (λ _.
    cond_both (eqb byte 3) _ _ (FitsAt limit) (λ _. other SectionHead refl) (λ _. other Nothing refl))))

fits_type_byte : (limit : ℕ) (c : StreamProgress) (b : Before) (byte : ℕ) → FitsAt limit c → FitsAt limit (after_type_byte c b byte)
fits_type_byte limit c b byte f =
    cond_both (is_passed c.frame c.section b byte) _ _ (FitsAt limit)
    (λ _. fits_due limit c.waiting c.room c.records c.rounds c.due _ f refl) (λ _. fits_type limit c byte f)

body_none : (o : Option Subsection) → is_coming (body_of o) ≡ false
body_none None = refl
body_none (Some kind) = refl

capabilities_none : (others : ℕ) → is_coming (capabilities_due others) ≡ false
capabilities_none others = cond_both (eqb others 0) _ _ (λ (d : Due). is_coming d ≡ false) (λ _. refl) (λ _. refl)

list_none : (last : Bool) → is_coming (list_due last) ≡ false
list_none true = refl
list_none false = refl

entry_none : (form : EntryForm) (last : Bool) → is_coming (entry_due form last) ≡ false
entry_none Plain last = list_none last
entry_none Addressed last = refl
entry_none Sized last = refl

passed_none : (p : PassedItem) (item : List ℕ) → is_coming (behind_passed p item) ≡ false
passed_none (Command b) item = refl
passed_none SubsectionHead item = body_none (subsection_of (id_in item))
passed_none (SubsectionBody PageBits) item = refl
passed_none (SubsectionBody Uuid) item = refl
passed_none (SubsectionBody Capabilities) item = capabilities_none (be32_at 0 item)
passed_none (Capability others) item = capabilities_none others
passed_none (Address last) item = list_none last
passed_none (Early b early.Head) item = refl
passed_none (Early b (early.Numbers id)) item = refl
passed_none (Early b (early.Plugged id others)) item = refl
passed_none (Early b (early.Footer id)) item = refl

-- a record's head without a fault has room
some_room : (limit : ℕ) (c : StreamProgress) (f : FitsAt limit c) → is_full c.room ≡ false → 1 ≤ f.left
some_room limit c f free = elim (cases_zero f.left) [
  | inl none ↦ absurd (let full : is_full c.room ≡ true = ap is_full (f.is_left ∙ ap (λ (n : ℕ). Some n) none) in
      let clash : true ≡ false = sym full ∙ free in cc)
  | inr some ↦ some
]
  where
    cases_zero : (n : ℕ) → (n ≡ 0) ⊎ (1 ≤ n)
    cases_zero zero = inl refl
    cases_zero (suc n) = inr (omega arith)

fits_begun : (limit : ℕ) (c : StreamProgress) (e : Due) (f : FitsAt limit c) → is_full c.room ≡ false → Fits limit c.waiting c.room c.records c.rounds e
fits_begun limit c e f free = record {
  waits = f.waits;
  left = f.left;
  is_left = f.is_left;
  adds = f.adds;
  has_room = λ _. some_room limit c f free;
  are_few = f.are_few;
}

fits_kind : (limit : ℕ) (c : StreamProgress) (kind : RecordKind) (page : ℕ) → FitsAt limit c
    → first_of (kind_faults c kind page) ≡ None → FitsAt limit (after_kind c kind page)
fits_kind limit c SizeList page f free = fits_due limit c.waiting c.room c.records c.rounds c.due ListEntry f refl
fits_kind limit c (Named filling) page f free =
    fits_begun limit c (BlockName filling page) f
    (passed (is_full c.room) Waiting [] (passed (is_none c.left) SizePlace ((is_full c.room, Waiting) ∷ []) free).1).0
fits_kind limit c (Continued filling) page f free =
    let more : List (Bool × StreamFault) = (is_none c.named, NoBlock) ∷ (not (has_page c.blocks c.named page), OffsetOut) ∷ [] in
    fits_begun limit c (Content filling (place_at (unwrap_or c.named 0) page)) f
    (passed (is_full c.room) Waiting more (passed (is_none c.left) SizePlace ((is_full c.room, Waiting) ∷ more) free).1).0
fits_kind limit c EndOfSection page f free = fits_eos c.mode limit c.waiting c.room c.records c.rounds c.due f
fits_kind limit c Flush page f free = fits_flushed
    (flush_ends c.mode (is_start c.section) (has_none c.records)) limit c.waiting c.room c.records c.rounds c.due RecordHead f refl

fits_head : (limit : ℕ) (c : StreamProgress) (flags : ℕ) (kind : Option RecordKind) (page : ℕ) → FitsAt limit c
    → first_of (head_faults c flags kind page) ≡ None → FitsAt limit (after_head c kind page)
fits_head limit c flags None page f free = f
fits_head limit c flags (Some kind) page f free = fits_kind limit c kind page f free

fits_entry : (limit : ℕ) (c : StreamProgress) (item : List ℕ) → FitsAt limit c → FitsAt limit (after_entry c item)
fits_entry limit c item f = fits_due limit c.waiting c.room c.records c.rounds c.due _ f (entry_none c.form _)

fits_record : (limit : ℕ) (c : StreamProgress) (place : Place) (content : Option (List ℕ)) → is_coming c.due ≡ true
    → FitsAt limit c → FitsAt limit (with_record c place content)
fits_record limit c place content coming f = record {
  waits = f.waits;
  left = f.left - 1;
  is_left = ap less_room f.is_left;
  adds = omega (arith, f.adds, f.has_room coming, length-append c.records (record { place = place; content = content } ∷ []));
  has_room = λ e. absurd cc;
  are_few = f.are_few;
}

-- an item without a fault leaves the reader within its limit
pub fits_item : (limit : ℕ) (c : StreamProgress) (d : Due) (item : List ℕ) → c.due ≡ d → FitsAt limit c
    → first_of (faults c d item) ≡ None → FitsAt limit (after_item c d item)
fits_item limit c FileHeader item here f free = fits_due limit c.waiting c.room c.records c.rounds c.due _ f refl
fits_item limit c (TypeByte b) item here f free = fits_type_byte limit c b (slice_index item 0) f
fits_item limit c ConfigLength item here f free =
    fits_due limit c.waiting c.room c.records c.rounds c.due _ f
    (cond_both (eqb (be32_at 0 item) 0) _ _ (λ (d : Due). is_coming d ≡ false) (λ _. refl) (λ _. refl))
fits_item limit c (ConfigName n) item here f free = fits_due limit c.waiting c.room c.records c.rounds c.due _ f refl
fits_item limit c StartHead item here f free = fits_due limit c.waiting c.room c.records c.rounds c.due _ f refl
fits_item limit c SectionHead item here f free = fits_due limit c.waiting c.room c.records c.rounds c.due _ f refl
fits_item limit c RecordHead item here f free = fits_head limit c _ _ _ f free
fits_item limit c ListEntry item here f free = fits_entry limit c item f
fits_item limit c (PageSize true) item here f free =
    cond_both (is_page_size item) _ _ (FitsAt limit) (λ _. fits_due limit c.waiting c.room c.records c.rounds c.due RecordHead f refl)
    (λ other. fits_head limit c _ _ _ f (not_size (is_page_size item) (record_faults c item) other free))
fits_item limit c (PageSize false) item here f free =
    cond_both (is_page_size item) _ _ (FitsAt limit)
    (λ _. fits_due limit c.waiting c.room c.records c.rounds c.due ListEntry f refl) (λ _. fits_entry limit c item f)
fits_item limit c (BlockName filling page) item here f free = record {
  waits = f.waits;
  left = f.left;
  is_left = f.is_left;
  adds = f.adds;
  has_room = λ _. f.has_room (ap is_coming here);
  are_few = f.are_few;
}
fits_item limit c (Content Zero place) item here f free = fits_record limit c place None (ap is_coming here) f
fits_item limit c (Content Normal place) item here f free = fits_record limit c place (Some item) (ap is_coming here) f
fits_item limit c Footer item here f free = fits_section c.mode limit c.waiting c.room c.records c.rounds c.due _ f (footer_none c.frame c.section)
fits_item limit c (Passed p) item here f free = fits_due limit c.waiting c.room c.records c.rounds c.due _ f (passed_none p item)
fits_item limit c Nothing item here f free = f

fits_all : (limit : ℕ) (c : StreamProgress) (items : List (List ℕ)) → FitsAt limit c → AreFaultless c items → FitsAt limit (after_all c items)
fits_all limit c [] f free = f
fits_all limit c (item ∷ items) f free = fits_all limit (after c item) items (fits_item limit c c.due item refl f free.1) free.2

-- a new reader is within its limit
pub first_fits : (given : Settings) (limit : ℕ) → given.waiting ≡ Some limit → FitsAt limit (from given)
first_fits given limit waits = record {
  waits = waits;
  left = limit;
  is_left = waits;
  adds = omega arith;
  has_room = λ e. absurd cc;
  are_few = All-nil (λ (round : List PageRecord). length round ≤ limit);
}

-- items without a fault leave the reader within its limit
pub fits_front : (given : Settings) (limit : ℕ) (front : List ℕ) (to : StreamProgress) → given.waiting ≡ Some limit
    → Front (from given) front to → FitsAt limit to
fits_front given limit front to waits leads =
    subst (FitsAt limit) (sym leads.leads_to) (fits_all limit (from given) leads.items (first_fits given limit waits) leads.are_faultless)

-- no round has more page records than the limit
pub bounded_law : WaitingIsBounded
bounded_law given limit front to waits leads =
    let f = fits_front given limit front to waits leads in
    (omega (arith, f.adds), f.are_few)

-- ---- fault 64

abbrev pub is_waiting : StreamFault → Bool
is_waiting Waiting = true
is_waiting other = false

-- the fault that is tested for is the one of the limit
pub waiting_is : (f : StreamFault) → is_waiting f ≡ true → f ≡ Waiting
waiting_is f e = search rules

-- none of these tests has that fault
abbrev pub unwaiting : List (Bool × StreamFault) → Bool
unwaiting [] = true
unwaiting (test ∷ tests) = not (is_waiting test.1) && unwaiting tests

-- tests that aren't of the limit never find the fault of the limit
pub never : (tests : List (Bool × StreamFault)) → unwaiting tests ≡ true → first_of tests ≡ Some Waiting → ⊥
never [] other e = absurd cc
never ((true, f) ∷ tests) other e = absurd (
    let same : f ≡ Waiting = cc in
    let clash : not (is_waiting Waiting) ≡ true = ap (λ (g : StreamFault). not (is_waiting g)) (sym same)
    ∙ (and_parts (not (is_waiting f)) (unwaiting tests) other).0 in cc)
never ((false, f) ∷ tests) other e = never tests (and_parts (not (is_waiting f)) (unwaiting tests) other).1 e

-- a reader without room has as many page records as the limit
pub no_room : (limit : ℕ) (c : StreamProgress) → FitsAt limit c → is_full c.room ≡ true → length c.records ≡ limit
no_room limit c f full =
    let none : (f.left == 0) ≡ true = sym (ap is_full f.is_left) ∙ full in
    omega (arith, f.adds, eqb-true f.left 0 none)

full_second : (a b : Bool) (more : List (Bool × StreamFault)) → unwaiting more ≡ true
    → first_of ((a, SizePlace) ∷ (b, Waiting) ∷ more) ≡ Some Waiting → b ≡ true
full_second true b more other e = absurd cc
full_second false true more other e = refl
full_second false false more other e = absurd (never more other e)

full_kind : (c : StreamProgress) (kind : RecordKind) (page : ℕ) → first_of (kind_faults c kind page) ≡ Some Waiting → is_full c.room ≡ true
full_kind c SizeList page e = absurd (never (kind_faults c SizeList page) refl e)
full_kind c (Named filling) page e = full_second (is_none c.left) (is_full c.room) [] refl e
full_kind c (Continued filling) page e =
    full_second (is_none c.left) (is_full c.room) ((is_none c.named, NoBlock) ∷ (not (has_page c.blocks c.named page), OffsetOut) ∷ []) refl e
full_kind c EndOfSection page e = absurd (never (kind_faults c EndOfSection page) refl e)
full_kind c Flush page e = absurd (never (kind_faults c Flush page) refl e)

full_head : (c : StreamProgress) (flags : ℕ) (kind : Option RecordKind) (page : ℕ)
    → first_of (head_faults c flags kind page) ≡ Some Waiting → is_full c.room ≡ true
full_head c flags None page e = absurd cc
full_head c flags (Some kind) page e = full_kind c kind page e

-- the tests of an item that is passed over
pub passed_unwaiting : (p : ℕ) (form : EntryForm) (passed : PassedItem) (item : List ℕ) → unwaiting (passed_faults p form passed item) ≡ true
passed_unwaiting p form (Command b) item = refl
passed_unwaiting p form SubsectionHead item = refl
passed_unwaiting p form (SubsectionBody PageBits) item = refl
passed_unwaiting p form (SubsectionBody Uuid) item = refl
passed_unwaiting p form (SubsectionBody Capabilities) item = refl
passed_unwaiting p form (Capability others) item = refl
passed_unwaiting p form (Address last) item = refl
passed_unwaiting p form (Early b early.Head) item = refl
passed_unwaiting p form (Early b (early.Numbers id)) item = refl
passed_unwaiting p form (Early b (early.Plugged id others)) item = refl
passed_unwaiting p form (Early b (early.Footer id)) item = refl

-- none after a page size
pub sized : (b : Bool) (tests : List (Bool × StreamFault)) → first_of (cond b [] tests) ≡ Some Waiting → first_of tests ≡ Some Waiting
sized true tests e = absurd cc
sized false tests e = e

-- the fault of the limit comes only if there is no room
pub full_item : (c : StreamProgress) (d : Due) (item : List ℕ) → first_of (faults c d item) ≡ Some Waiting → is_full c.room ≡ true
full_item c FileHeader item e = absurd (never (faults c FileHeader item) refl e)
full_item c (TypeByte b) item e = absurd (never (faults c (TypeByte b) item) refl e)
full_item c ConfigLength item e = absurd (never (faults c ConfigLength item) refl e)
full_item c (ConfigName n) item e = absurd (never (faults c (ConfigName n) item) refl e)
full_item c StartHead item e = absurd (never (faults c StartHead item) refl e)
full_item c SectionHead item e = absurd (never (faults c SectionHead item) refl e)
full_item c RecordHead item e = full_head c (be64_at 0 item % c.page_size) (record_kind (be64_at 0 item % c.page_size)) (be64_at 0 item / c.page_size) e
full_item c ListEntry item e = absurd (never (faults c ListEntry item) refl e)
full_item c (PageSize true) item e =
    full_head c (be64_at 0 item % c.page_size) (record_kind (be64_at 0 item % c.page_size)) (be64_at 0 item / c.page_size)
    (sized (is_page_size item) (record_faults c item) e)
full_item c (PageSize false) item e = absurd (never (entry_faults c item) refl (sized (is_page_size item) (entry_faults c item) e))
full_item c (BlockName filling page) item e = absurd (never (faults c (BlockName filling page) item) refl e)
full_item c (Content Zero place) item e = absurd (never (faults c (Content Zero place) item) refl e)
full_item c (Content Normal place) item e = absurd (never (faults c (Content Normal place) item) refl e)
full_item c Footer item e = absurd (never (faults c Footer item) refl e)
full_item c (Passed p) item e = absurd (never (passed_faults c.page_size c.form p item) (passed_unwaiting c.page_size c.form p item) e)
full_item c Nothing item e = absurd (never (faults c Nothing item) refl e)

-- the limit refuses a record only if the open round has as many as the limit
pub full_law : FullRoundIsRefused
full_law given limit front item to waits leads e =
    no_room limit to (fits_front given limit front to waits leads) (full_item to to.due item e)
