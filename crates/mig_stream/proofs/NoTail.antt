-- If each EOS ends a round no page record is left after it, and so fault 33 doesn't occur.
use Rattle.std.proofs.Common.{◌≡◌, ◌≢◌, ℕ, ◌-◌, Bool, true, false, not, eqb, ◌&&◌, ◌==◌, List, [], ◌∷◌, length, Option, Some, None, refl, sym, ap, subst, ◌∙◌}
use Rattle.std.specs.Prelude.{slice_index, ⊤}
use Rattle.std.specs.Option.{unwrap_or}
use Rattle.std.proofs.lemmas.Bool.{cond_both}
use Rattle.mig_mem.specs.First.{first_of}
use Rattle.mig_stream.specs.declared.item.Mode.{Mode}
use Rattle.mig_stream.specs.declared.item.Mode.TheVariants.{MainBySection}
use Rattle.mig_stream.specs.declared.item.Filling.TheVariants.{Zero, Normal}
use Rattle.mig_stream.specs.declared.item.Before.{Before}
use Rattle.mig_stream.specs.declared.item.Subsection.TheVariants.{PageBits, Uuid, Capabilities}
use Rattle.mig_stream.specs.declared.item.PassedItem.{PassedItem}
use Rattle.mig_stream.specs.declared.item.PassedItem.TheVariants.{Command, SubsectionHead, SubsectionBody, Capability, Address, Early}
use Rattle.mig_stream.specs.declared.item.EarlyPart.TheVariants as early
use Rattle.mig_stream.specs.declared.item.EntryForm.{EntryForm}
use Rattle.mig_stream.specs.declared.item.EntryForm.TheVariants.{Plain, Addressed, Sized}
use Rattle.mig_stream.specs.declared.item.Due.{Due}
use Rattle.mig_stream.specs.declared.item.Due.TheVariants.{FileHeader, TypeByte, ConfigLength, ConfigName, StartHead, SectionHead, RecordHead, ListEntry}
use Rattle.mig_stream.specs.declared.item.Due.TheVariants.{PageSize, BlockName, Content, Footer, Passed, Nothing}
use Rattle.mig_stream.specs.declared.item.RecordKind.{RecordKind}
use Rattle.mig_stream.specs.declared.item.RecordKind.TheVariants.{SizeList, Named, Continued, EndOfSection, Flush}
use Rattle.mig_stream.specs.declared.item.StreamState.{StreamState}
use Rattle.mig_stream.specs.declared.item.StreamState.TheVariants.{Bad}
use Rattle.mig_stream.specs.declared.fault.StreamFault.{StreamFault}
use Rattle.mig_stream.specs.declared.fault.StreamFault.TheVariants as fault
use Rattle.mig_stream.specs.Fields.{be32_at}
use Rattle.mig_stream.specs.Format.{end_byte}
use Rattle.mig_stream.specs.PageRecord.{PageRecord}
use Rattle.mig_stream.specs.Progress.{StreamProgress}
use Rattle.mig_stream.specs.Items.{length_in, is_page_size, is_single, has_tail, is_passed, passed_by, closes, passed_faults, head_faults, record_faults}
use Rattle.mig_stream.specs.Items.{entry_faults, faults, after_type, after_type_byte, after_head, entry_due, behind_passed, open_records, end_section}
use Rattle.mig_stream.specs.Items.{eos_records, after_item, after}
use Rattle.mig_stream.specs.Later.{is_open}
use Rattle.mig_stream.specs.Reading.{AreFaultless, after_all, Ends}
use Rattle.mig_stream.specs.Flushed.{from, SectionsHaveNoTail}
use Rattle.mig_stream.proofs.Feeding.{front_item}
use Rattle.mig_stream.proofs.Steps.{IsLater-front}

-- ---- outside of a section's records none waits

abbrev IsEmpty : Due → List PageRecord → Type 0
IsEmpty RecordHead records = ⊤
IsEmpty ListEntry records = ⊤
IsEmpty (PageSize last) records = ⊤
IsEmpty (Passed (Address last)) records = ⊤
IsEmpty (BlockName f page) records = ⊤
IsEmpty (Content f place) records = ⊤
IsEmpty d records = records ≡ []

no_records : (d : Due) → IsEmpty d []
no_records FileHeader = refl
no_records (TypeByte before) = refl
no_records ConfigLength = refl
no_records (ConfigName n) = refl
no_records StartHead = refl
no_records SectionHead = refl
no_records RecordHead = tt
no_records ListEntry = tt
no_records (PageSize last) = tt
no_records (BlockName f page) = tt
no_records (Content f place) = tt
no_records Footer = refl
no_records (Passed (Command before)) = refl
no_records (Passed SubsectionHead) = refl
no_records (Passed (SubsectionBody kind)) = refl
no_records (Passed (Capability others)) = refl
no_records (Passed (Address last)) = tt
no_records (Passed (Early before part)) = refl
no_records Nothing = refl

empty_due : (d : Due) (records : List PageRecord) → records ≡ [] → IsEmpty d records
empty_due d records e = subst (IsEmpty d) (sym e) (no_records d)

abbrev StaysEmpty : StreamProgress → Type 0
StaysEmpty c = IsEmpty c.due c.records

type_empty : (c : StreamProgress) (b : ℕ) → c.records ≡ [] → StaysEmpty (after_type c b)
type_empty c b e =
    cond_both (eqb b 7) _ _ StaysEmpty (λ _. e) (λ _.
    cond_both (eqb b 1) _ _ StaysEmpty (λ _. e) (λ _.
    cond_both (eqb b 2) _ _ StaysEmpty (λ _. e) (λ _.
    cond_both (eqb b 3) _ _ StaysEmpty (λ _. e) (λ _. e))))

type_byte_empty : (c : StreamProgress) (before : Before) (b : ℕ) → c.records ≡ [] → StaysEmpty (after_type_byte c before b)
type_byte_empty c before b e = cond_both (is_passed c.frame c.section before b) _ _ StaysEmpty
    (λ _. empty_due (Passed (passed_by before b)) c.records e) (λ _. type_empty c b e)

-- after the guest address of a block stands another entry, or a record
passed_empty : (c : StreamProgress) (passed : PassedItem) (item : List ℕ) → IsEmpty (Passed passed) c.records → IsEmpty (behind_passed passed item) c.records
passed_empty c (Command before) item h = empty_due (behind_passed (Command before) item) c.records h
passed_empty c SubsectionHead item h = empty_due (behind_passed SubsectionHead item) c.records h
passed_empty c (SubsectionBody kind) item h = empty_due (behind_passed (SubsectionBody kind) item) c.records h
passed_empty c (Capability others) item h = empty_due (behind_passed (Capability others) item) c.records h
passed_empty c (Address true) item h = tt
passed_empty c (Address false) item h = tt
passed_empty c (Early before part) item h = empty_due (behind_passed (Early before part) item) c.records h

entry_empty : (form : EntryForm) (last : Bool) (records : List PageRecord) → IsEmpty (entry_due form last) records
entry_empty Plain true records = tt
entry_empty Plain false records = tt
entry_empty Addressed last records = tt
entry_empty Sized last records = tt

head_empty : (c : StreamProgress) (k : Option RecordKind) (page : ℕ) → c.mode ≡ MainBySection → StaysEmpty c → StaysEmpty (after_head c k page)
head_empty c None page by e = e
head_empty c (Some SizeList) page by e = tt
head_empty c (Some (Named f)) page by e = tt
head_empty c (Some (Continued f)) page by e = tt
head_empty c (Some EndOfSection) page by e = ap (λ (m : Mode). eos_records m c.records) by
head_empty c (Some Flush) page by e = tt

item_empty : (c : StreamProgress) (d : Due) (item : List ℕ) → c.mode ≡ MainBySection → StaysEmpty c → IsEmpty d c.records → StaysEmpty (after_item c d item)
item_empty c FileHeader item by e h = h
item_empty c (TypeByte before) item by e h = type_byte_empty c before (slice_index item 0) h
item_empty c ConfigLength item by e h = cond_both (eqb (be32_at 0 item) 0) _ _ (λ (d : Due). IsEmpty d c.records) (λ _. h) (λ _. h)
item_empty c (ConfigName n) item by e h = h
item_empty c StartHead item by e h = tt
item_empty c SectionHead item by e h = tt
item_empty c RecordHead item by e h = head_empty c _ _ by e
item_empty c ListEntry item by e h = entry_empty c.form (unwrap_or c.left 0 - length_in item == 0) c.records
item_empty c (PageSize true) item by e h = cond_both (is_page_size item) _ _ StaysEmpty (λ _. tt) (λ _. head_empty c _ _ by e)
item_empty c (PageSize false) item by e h =
    cond_both (is_page_size item) _ _ StaysEmpty (λ _. tt) (λ _. entry_empty c.form (unwrap_or c.left 0 - length_in item == 0) c.records)
item_empty c (BlockName f page) item by e h = tt
item_empty c (Content Zero place) item by e h = tt
item_empty c (Content Normal place) item by e h = tt
item_empty c Footer item by e h = empty_due (end_section c).due (end_section c).records (ap (λ (m : Mode). open_records m c.records) by ∙ h)
item_empty c (Passed passed) item by e h = passed_empty c passed item h
item_empty c Nothing item by e h = e

all_empty : (c : StreamProgress) (items : List (List ℕ)) → c.mode ≡ MainBySection → StaysEmpty c → AreFaultless c items → StaysEmpty (after_all c items)
all_empty c [] by e free = e
all_empty c (item ∷ items) by e free =
    let there = (IsLater-front c (after c item) item (front_item c item free.0 free.1)).same_mode (ap is_open by) ∙ by in
    all_empty (after c item) items there (item_empty c c.due item by e e) free.2

-- ---- no item has that fault

abbrev AreOthers : List (Bool × StreamFault) → Type 0
AreOthers [] = ⊤
AreOthers (test ∷ tests) = (test.1 ≢ fault.Tail) × AreOthers tests

other_fault : (tests : List (Bool × StreamFault)) → AreOthers tests → first_of tests ≡ Some fault.Tail → ⊥
other_fault [] others e = absurd cc
other_fault ((true, f) ∷ tests) others e = others.0 (let same : f ≡ fault.Tail = cc in same)
other_fault ((false, f) ∷ tests) others e = other_fault tests others.1 e

never : (ends single : Bool) → (ends && not single && false) ≡ false
never true true = refl
never true false = refl
never false single = refl

no_tail : (ends : Bool) (c : StreamProgress) → c.records ≡ [] → has_tail ends c ≡ false
no_tail ends c e = ap (λ (r : List PageRecord). ends && not (is_single c.mode) && not (length r == 0)) e ∙ never ends (is_single c.mode)

tail_last : (x ends : Bool) (f : StreamFault) (c : StreamProgress) → c.records ≡ [] → f ≢ fault.Tail
    → first_of ((x, f) ∷ (has_tail ends c, fault.Tail) ∷ []) ≡ Some fault.Tail → ⊥
tail_last x ends f c none other e =
    two x (ap (λ (t : Bool). first_of ((x, f) ∷ (t, fault.Tail) ∷ [])) (sym (no_tail ends c none)) ∙ e)
  where
    two : (x : Bool) → first_of ((x, f) ∷ (false, fault.Tail) ∷ []) ≡ Some fault.Tail → ⊥
    two true e = other (let same : f ≡ fault.Tail = cc in same)
    two false e = absurd cc

head_others : (c : StreamProgress) (flags : ℕ) (k : Option RecordKind) (page : ℕ) → AreOthers (head_faults c flags k page)
head_others c flags None page = ((λ e. absurd cc), tt)
head_others c flags (Some SizeList) page = ((λ e. absurd cc), ((λ e. absurd cc), tt))
head_others c flags (Some (Named f)) page = ((λ e. absurd cc), ((λ e. absurd cc), tt))
head_others c flags (Some (Continued f)) page = ((λ e. absurd cc), ((λ e. absurd cc), ((λ e. absurd cc), ((λ e. absurd cc), tt))))
head_others c flags (Some EndOfSection) page = ((λ e. absurd cc), ((λ e. absurd cc), tt))
head_others c flags (Some Flush) page = ((λ e. absurd cc), ((λ e. absurd cc), ((λ e. absurd cc), tt)))

entry_others : (c : StreamProgress) (item : List ℕ) → AreOthers (entry_faults c item)
entry_others c item = ((λ e. absurd cc), ((λ e. absurd cc), ((λ e. absurd cc), ((λ e. absurd cc), ((λ e. absurd cc), tt)))))

passed_others : (p : ℕ) (form : EntryForm) (passed : PassedItem) (item : List ℕ) → AreOthers (passed_faults p form passed item)
passed_others p form (Command before) item = ((λ e. absurd cc), tt)
passed_others p form SubsectionHead item = ((λ e. absurd cc), tt)
passed_others p form (SubsectionBody PageBits) item = ((λ e. absurd cc), tt)
passed_others p form (SubsectionBody Uuid) item = tt
passed_others p form (SubsectionBody Capabilities) item = tt
passed_others p form (Capability others) item = ((λ e. absurd cc), tt)
passed_others p form (Address last) item = tt
passed_others p form (Early before early.Head) item = ((λ e. absurd cc), tt)
passed_others p form (Early before (early.Numbers id)) item = ((λ e. absurd cc), tt)
passed_others p form (Early before (early.Plugged id others)) item = tt
passed_others p form (Early before (early.Footer id)) item = ((λ e. absurd cc), tt)

item_fault : (c : StreamProgress) (d : Due) (item : List ℕ) → IsEmpty d c.records → first_of (faults c d item) ≡ Some fault.Tail → ⊥
item_fault c FileHeader item h e = other_fault (faults c FileHeader item) ((λ e. absurd cc), ((λ e. absurd cc), tt)) e
item_fault c (TypeByte before) item h e = tail_last _ (slice_index item 0 == end_byte) fault.SectionType c h (λ e. absurd cc) e
item_fault c ConfigLength item h e = other_fault (faults c ConfigLength item) ((λ e. absurd cc), tt) e
item_fault c (ConfigName n) item h e = absurd cc
item_fault c StartHead item h e = other_fault (faults c StartHead item) ((λ e. absurd cc), ((λ e. absurd cc), ((λ e. absurd cc), tt))) e
item_fault c SectionHead item h e = other_fault (faults c SectionHead item) ((λ e. absurd cc), tt) e
item_fault c RecordHead item h e = other_fault (faults c RecordHead item) (head_others c _ _ _) e
item_fault c ListEntry item h e = other_fault (faults c ListEntry item) (entry_others c item) e
item_fault c (PageSize true) item h e = other_fault (faults c (PageSize true) item)
    (cond_both (is_page_size item) [] (record_faults c item) AreOthers (λ _. tt) (λ _. head_others c _ _ _)) e
item_fault c (PageSize false) item h e =
    other_fault (faults c (PageSize false) item) (cond_both (is_page_size item) [] (entry_faults c item) AreOthers (λ _. tt) (λ _. entry_others c item)) e
item_fault c (BlockName f page) item h e = other_fault (faults c (BlockName f page) item) ((λ e. absurd cc), ((λ e. absurd cc), tt)) e
item_fault c (Content Zero place) item h e = other_fault (faults c (Content Zero place) item) ((λ e. absurd cc), tt) e
item_fault c (Content Normal place) item h e = absurd cc
item_fault c Footer item h e = tail_last _ (closes c.frame c.section) fault.Footer c h (λ e. absurd cc) e
item_fault c (Passed passed) item h e = other_fault (passed_faults c.page_size c.form passed item) (passed_others c.page_size c.form passed item) e
item_fault c Nothing item h e = absurd cc

-- the law: where each EOS ends a round no page record is without an end of its round
pub sections_have_no_tail : SectionsHaveNoTail
sections_have_no_tail = λ given text reading by is bad.
    let f = is.reads.leads in
    let last : StaysEmpty is.to = subst StaysEmpty (sym f.leads_to) (all_empty (from given) f.items by refl f.are_faultless) in
    let ends : Ends is.to is.rest (Bad fault.Tail) = subst (λ (s : StreamState). Ends is.to is.rest s) bad is.reads.ends in
    item_fault is.to is.to.due ends.0 last ends.4
