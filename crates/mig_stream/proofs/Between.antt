-- Between two sections of a single stream no record waits: the footer ended the round of those
-- before it.
use Rattle.std.proofs.Common.{◌≡◌, ℕ, ◌-◌, Bool, true, false, ◌==◌, eqb, List, [], ◌∷◌, Option, Some, None, refl, sym, ap, subst, ◌∙◌, inl, inr}
use Rattle.std.specs.Prelude.{slice_index, ⊤}
use Rattle.std.specs.Option.{unwrap_or}
use Rattle.std.proofs.lemmas.Bool.{cond_both}
use Rattle.mig_stream.specs.declared.item.Mode.{Mode}
use Rattle.mig_stream.specs.declared.item.Mode.TheVariants.{Single}
use Rattle.mig_stream.specs.declared.item.Filling.TheVariants.{Zero, Normal}
use Rattle.mig_stream.specs.declared.item.Before.{Before}
use Rattle.mig_stream.specs.declared.item.Frame.{Frame}
use Rattle.mig_stream.specs.declared.item.EntryForm.{EntryForm}
use Rattle.mig_stream.specs.declared.item.EntryForm.TheVariants.{Plain, Addressed, Sized}
use Rattle.mig_stream.specs.declared.item.PassedItem.{PassedItem}
use Rattle.mig_stream.specs.declared.item.PassedItem.TheVariants.{Command, SubsectionHead, SubsectionBody, Capability, Address, Early}
use Rattle.mig_stream.specs.declared.item.Due.{Due}
use Rattle.mig_stream.specs.declared.item.Due.TheVariants.{FileHeader, TypeByte, ConfigLength, ConfigName, StartHead, SectionHead, RecordHead, ListEntry}
use Rattle.mig_stream.specs.declared.item.Due.TheVariants.{PageSize, BlockName, Content, Footer, Passed, Nothing}
use Rattle.mig_stream.specs.declared.item.RecordKind.{RecordKind}
use Rattle.mig_stream.specs.declared.item.RecordKind.TheVariants.{SizeList, Named, Continued, EndOfSection, Flush}
use Rattle.mig_stream.specs.Fields.{be32_at}
use Rattle.mig_stream.specs.PageRecord.{PageRecord}
use Rattle.mig_stream.specs.Progress.{StreamProgress, start}
use Rattle.mig_stream.specs.Items.{length_in, is_page_size, is_passed, passed_by, entry_due, behind_passed, end_section, after_type, after_type_byte}
use Rattle.mig_stream.specs.Items.{after_head, open_records, after_item, after}
use Rattle.mig_stream.specs.Later.{is_open}
use Rattle.mig_stream.specs.declared.item.StreamState.TheVariants.{Closed}
use Rattle.mig_stream.specs.Reading.{AreFaultless, after_all, Front, Ends}
use Rattle.mig_stream.proofs.Stopping.{over_is}
use Rattle.mig_stream.proofs.Feeding.{front_item}
use Rattle.mig_stream.proofs.Steps.{IsLater-front}

-- if no section is open, no record waits
abbrev IsEmpty : Due → List PageRecord → Type 0
IsEmpty RecordHead records = ⊤
IsEmpty ListEntry records = ⊤
IsEmpty (PageSize last) records = ⊤
IsEmpty (Passed (Address last)) records = ⊤
IsEmpty (BlockName f page) records = ⊤
IsEmpty (Content f place) records = ⊤
IsEmpty Footer records = ⊤
IsEmpty d records = records ≡ []

no_records : (d : Due) → IsEmpty d []
no_records FileHeader = refl
no_records (TypeByte before) = refl
no_records ConfigLength = refl
no_records (ConfigName n) = refl
no_records StartHead = refl
no_records SectionHead = refl
no_records RecordHead = tt
no_records ListEntry = tt
no_records (PageSize last) = tt
no_records (BlockName f page) = tt
no_records (Content f place) = tt
no_records Footer = tt
no_records (Passed (Command before)) = refl
no_records (Passed SubsectionHead) = refl
no_records (Passed (SubsectionBody kind)) = refl
no_records (Passed (Capability others)) = refl
no_records (Passed (Address last)) = tt
no_records (Passed (Early before part)) = refl
no_records Nothing = refl

abbrev StaysEmpty : StreamProgress → Type 0
StaysEmpty c = IsEmpty c.due c.records

type_empty : (c : StreamProgress) (b : ℕ) → c.records ≡ [] → StaysEmpty (after_type c b)
type_empty c b e =
    cond_both (eqb b 7) _ _ StaysEmpty (λ _. e) (λ _.
    cond_both (eqb b 1) _ _ StaysEmpty (λ _. e) (λ _.
    cond_both (eqb b 2) _ _ StaysEmpty (λ _. e) (λ _.
    cond_both (eqb b 3) _ _ StaysEmpty (λ _. e) (λ _. e))))

-- if no record waits, no item but those of a section wants any
empty_due : (d : Due) (records : List PageRecord) → records ≡ [] → IsEmpty d records
empty_due d records e = subst (IsEmpty d) (sym e) (no_records d)

type_byte_empty : (c : StreamProgress) (before : Before) (b : ℕ) → c.records ≡ [] → StaysEmpty (after_type_byte c before b)
type_byte_empty c before b e = cond_both (is_passed c.frame c.section before b) _ _ StaysEmpty
    (λ _. empty_due (Passed (passed_by before b)) c.records e) (λ _. type_empty c b e)

-- after the guest address of a block stands another entry, or a record
passed_empty : (c : StreamProgress) (passed : PassedItem) (item : List ℕ) → IsEmpty (Passed passed) c.records → IsEmpty (behind_passed passed item) c.records
passed_empty c (Command before) item h = empty_due (behind_passed (Command before) item) c.records h
passed_empty c SubsectionHead item h = empty_due (behind_passed SubsectionHead item) c.records h
passed_empty c (SubsectionBody kind) item h = empty_due (behind_passed (SubsectionBody kind) item) c.records h
passed_empty c (Capability others) item h = empty_due (behind_passed (Capability others) item) c.records h
passed_empty c (Address true) item h = tt
passed_empty c (Address false) item h = tt
passed_empty c (Early before part) item h = empty_due (behind_passed (Early before part) item) c.records h

entry_empty : (form : EntryForm) (last : Bool) (records : List PageRecord) → IsEmpty (entry_due form last) records
entry_empty Plain true records = tt
entry_empty Plain false records = tt
entry_empty Addressed last records = tt
entry_empty Sized last records = tt

head_empty : (c : StreamProgress) (k : Option RecordKind) (page : ℕ) → StaysEmpty c → StaysEmpty (after_head c k page)
head_empty c None page e = e
head_empty c (Some SizeList) page e = tt
head_empty c (Some (Named f)) page e = tt
head_empty c (Some (Continued f)) page e = tt
head_empty c (Some EndOfSection) page e = tt
head_empty c (Some Flush) page e = tt

item_empty : (c : StreamProgress) (d : Due) (item : List ℕ) → c.mode ≡ Single → StaysEmpty c → IsEmpty d c.records → StaysEmpty (after_item c d item)
item_empty c FileHeader item single e h = h
item_empty c (TypeByte before) item single e h = type_byte_empty c before (slice_index item 0) h
item_empty c ConfigLength item single e h = cond_both (eqb (be32_at 0 item) 0) _ _ (λ (d : Due). IsEmpty d c.records) (λ _. h) (λ _. h)
item_empty c (ConfigName n) item single e h = h
item_empty c StartHead item single e h = tt
item_empty c SectionHead item single e h = tt
item_empty c RecordHead item single e h = head_empty c _ _ e
item_empty c ListEntry item single e h = entry_empty c.form (unwrap_or c.left 0 - length_in item == 0) c.records
item_empty c (PageSize true) item single e h = cond_both (is_page_size item) _ _ StaysEmpty (λ _. tt) (λ _. head_empty c _ _ e)
item_empty c (PageSize false) item single e h =
    cond_both (is_page_size item) _ _ StaysEmpty (λ _. tt) (λ _. entry_empty c.form (unwrap_or c.left 0 - length_in item == 0) c.records)
item_empty c (BlockName f page) item single e h = tt
item_empty c (Content Zero place) item single e h = tt
item_empty c (Content Normal place) item single e h = tt
item_empty c Footer item single e h = empty_due (end_section c).due (end_section c).records (ap (λ (m : Mode). open_records m c.records) single)
item_empty c (Passed passed) item single e h = passed_empty c passed item h
item_empty c Nothing item single e h = e

all_empty : (c : StreamProgress) (items : List (List ℕ)) → c.mode ≡ Single → StaysEmpty c → AreFaultless c items → StaysEmpty (after_all c items)
all_empty c [] single e free = e
all_empty c (item ∷ items) single e free =
    let there = (IsLater-front c (after c item) item (front_item c item free.0 free.1)).same_mode (ap is_open single) ∙ single in
    all_empty (after c item) items there (item_empty c c.due item single e e) free.2

-- Where a stream is closed no record waits.
pub closed_is_empty : (frame : Frame) (m : Mode) (p limit : ℕ) (waiting : Option ℕ) (bytes : List ℕ) (to : StreamProgress) (rest : List ℕ)
    → m ≡ Single → Front (start frame m p limit waiting) bytes to → Ends to rest Closed → to.records ≡ []
closed_is_empty frame m p limit waiting bytes to rest single f closed = by closed
  where
    last : StaysEmpty to
    last = subst StaysEmpty (sym f.leads_to) (all_empty (start frame m p limit waiting) f.items single refl f.are_faultless)

    by : Ends to rest Closed → to.records ≡ []
    by (inl due) = subst (λ (d : Due). IsEmpty d to.records) due last
    by (inr over) = subst (λ (d : Due). IsEmpty d to.records) (over_is to over.0 over.4).is_type last
