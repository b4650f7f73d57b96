-- A main stream that is closed has no page record that no FLUSH follows.
use Rattle.std.proofs.Common.{◌≡◌, ◌≢◌, ℕ, ◌+◌, ◌-◌, ◌==◌, ◌&&◌, ◌||◌, not, Bool, true, false, cond, List, [], ◌∷◌, length, Option, Some, None, refl, sym, ap}
use Rattle.std.proofs.Common.{subst, ◌∙◌, inl, inr, is_none}
use Rattle.std.specs.Prelude.{slice_index}
use Rattle.std.proofs.lemmas.Bool.{cases_Bool, cond-false, eqb-true, or_cases, or_parts, not-false}
use Rattle.std.proofs.lemmas.List.{nil_from_length}
use Rattle.mig_mem.specs.First.{first_of}
use Rattle.mig_stream.specs.declared.fault.StreamFault.TheVariants as stream_fault
use Rattle.mig_stream.specs.declared.item.Frame.{Frame}
use Rattle.mig_stream.specs.declared.item.Mode.{Mode}
use Rattle.mig_stream.specs.declared.item.Mode.TheVariants.{Single, Main, MainBySection, MainAsShown}
use Rattle.mig_stream.specs.declared.item.Section.TheVariants as section
use Rattle.mig_stream.specs.declared.item.Before.{Before}
use Rattle.mig_stream.specs.declared.item.Before.TheVariants as before
use Rattle.mig_stream.specs.declared.item.Filling.TheVariants.{Zero, Normal}
use Rattle.mig_stream.specs.declared.item.Subsection.{Subsection}
use Rattle.mig_stream.specs.declared.item.Subsection.TheVariants.{PageBits, Uuid, Capabilities}
use Rattle.mig_stream.specs.declared.item.PassedItem.{PassedItem}
use Rattle.mig_stream.specs.declared.item.PassedItem.TheVariants.{Command, SubsectionHead, SubsectionBody, Capability, Address, Early}
use Rattle.mig_stream.specs.declared.item.EarlyPart.TheVariants as early
use Rattle.mig_stream.specs.declared.item.RecordKind.{RecordKind}
use Rattle.mig_stream.specs.declared.item.RecordKind.TheVariants.{SizeList, Named, Continued, EndOfSection, Flush}
use Rattle.mig_stream.specs.declared.item.EntryForm.{EntryForm}
use Rattle.mig_stream.specs.declared.item.EntryForm.TheVariants.{Plain, Addressed, Sized}
use Rattle.mig_stream.specs.declared.item.Due.{Due}
use Rattle.mig_stream.specs.declared.item.Due.TheVariants.{FileHeader, TypeByte, ConfigLength, ConfigName, StartHead, SectionHead, RecordHead, ListEntry}
use Rattle.mig_stream.specs.declared.item.Due.TheVariants.{PageSize, BlockName, Content, Footer, Passed, Nothing}
use Rattle.mig_stream.specs.Format.{configuration_type, section_type, end_byte, subsection_version}
use Rattle.mig_stream.specs.PageRecord.{PageRecord}
use Rattle.mig_stream.specs.Progress.{StreamProgress, start}
use Rattle.mig_stream.specs.Items.{is_page_size, entry_due, id_in, is_single, is_allowed, is_passed, has_tail, closes, footer_of, subsection_of, body_of}
use Rattle.mig_stream.specs.Items.{capabilities_due, behind_passed, passed_by, after_type, after_type_byte, after_head, after_item, after, end_section, faults}
use Rattle.mig_stream.specs.Items.{open_records}
use Rattle.mig_stream.specs.Fields.{be32_at}
use Rattle.mig_stream.specs.Reading.{AreFaultless, after_all, Front}
use Rattle.mig_stream.proofs.Feeding.{front_item}
use Rattle.mig_stream.proofs.Steps.{passed, IsLater-front}

open_nil : (m : Mode) (records : List PageRecord) → records ≡ [] → open_records m records ≡ []
open_nil Single records none = refl
open_nil Main records none = none
open_nil MainBySection records none = none
open_nil MainAsShown records none = none

-- if a main stream may end it has no tail
no_tail : (ends : Bool) (c : StreamProgress) → is_single c.mode ≡ false → ends ≡ true → has_tail ends c ≡ false → c.records ≡ []
no_tail ends c main is none =
    let t : (true && not false && not (length c.records == 0)) ≡ false = rw (is, main) at none in
    nil_from_length c.records (eqb-true (length c.records) 0 (not-false (length c.records == 0) t))

-- a type byte that begins nothing is the end byte
ends_there : (before : Before) (b : ℕ) → (b == configuration_type) ≡ false → (b == section_type section.Start) ≡ false
    → (b == section_type section.Part) ≡ false
    → (b == section_type section.End) ≡ false → is_allowed before b ≡ true → (b == end_byte) ≡ true
ends_there before.FileHeader b n7 n1 n2 n3 t = absurd (let f : (false || false) ≡ true = rw (n7, n1) at t in cc)
ends_there before.Configuration b n7 n1 n2 n3 t = absurd cc
ends_there before.Command b n7 n1 n2 n3 t = absurd cc
ends_there before.Footer b n7 n1 n2 n3 t = absurd (let f : (false || false) ≡ true = rw (n2, n3) at t in cc)
ends_there before.LastFooter b n7 n1 n2 n3 t = t

type_records : (c : StreamProgress) (b : ℕ) → (after_type c b).records ≡ c.records
type_records c b = elim (cases_Bool (b == configuration_type)) [
  | inl t ↦ rw t refl
  | inr n7 ↦ elim (cases_Bool (b == section_type section.Start)) [
    | inl t ↦ rw (n7, t) refl
    | inr n1 ↦ elim (cases_Bool (b == section_type section.Part)) [
      | inl t ↦ rw (n7, n1, t) refl
      | inr n2 ↦ elim (cases_Bool (b == section_type section.End)) [ inl t ↦ rw (n7, n1, n2, t) refl | inr n3 ↦ rw (n7, n1, n2, n3) refl ]
    ]
  ]
]

type_ends : (c : StreamProgress) (before : Before) (b : ℕ) → is_allowed before b ≡ true → (after_type c b).due ≡ Nothing → (b == end_byte) ≡ true
type_ends c before b allowed closed = elim (cases_Bool (b == configuration_type)) [
  | inl t ↦ absurd (let e : ConfigLength ≡ Nothing = rw t at closed in cc)
  | inr n7 ↦ elim (cases_Bool (b == section_type section.Start)) [
    | inl t ↦ absurd (let e : StartHead ≡ Nothing = rw (n7, t) at closed in cc)
    | inr n1 ↦ elim (cases_Bool (b == section_type section.Part)) [
      | inl t ↦ absurd (let e : SectionHead ≡ Nothing = rw (n7, n1, t) at closed in cc)
      | inr n2 ↦ elim (cases_Bool (b == section_type section.End)) [
        | inl t ↦ absurd (let e : SectionHead ≡ Nothing = rw (n7, n1, n2, t) at closed in cc)
        | inr n3 ↦ ends_there before b n7 n1 n2 n3 allowed
      ]
    ]
  ]
]

type_closes : (c : StreamProgress) (before : Before) (item : List ℕ) → is_single c.mode ≡ false → first_of (faults c (TypeByte before) item) ≡ None
    → (after_type_byte c before (slice_index item 0)).due ≡ Nothing → (after_type_byte c before (slice_index item 0)).records ≡ []
type_closes c before item main free closed =
    let b : ℕ = slice_index item 0 in
    elim (cases_Bool (is_passed c.frame c.section before b)) [
      | inl p ↦ absurd (let e : Passed (passed_by before b) ≡ Nothing = rw p at closed in cc)
      | inr n ↦
          let t1 = passed (not (is_allowed before b || is_passed c.frame c.section before b)) stream_fault.SectionType
          ((has_tail (b == end_byte) c, stream_fault.Tail) ∷ []) free in
          let t2 = passed (has_tail (b == end_byte) c) stream_fault.Tail [] t1.1 in
          let allowed : is_allowed before b ≡ true =
          elim (or_cases (is_allowed before b) (is_passed c.frame c.section before b) (not-false _ t1.0)) [ inl a ↦ a | inr p ↦ absurd cc ] in
          let here : after_type_byte c before b ≡ after_type c b =
          cond-false (is_passed c.frame c.section before b) (record c { due = Passed (passed_by before b) }) (after_type c b) n in
          let end : (b == end_byte) ≡ true = type_ends c before b allowed (sym (ap (λ (x : StreamProgress). x.due) here) ∙ closed) in
          ap (λ (x : StreamProgress). x.records) here ∙ type_records c b ∙ no_tail (b == end_byte) c main end t2.0
    ]

footer_closes : (c : StreamProgress) (item : List ℕ) → is_single c.mode ≡ false → first_of (faults c Footer item) ≡ None
    → (end_section c).due ≡ Nothing → (end_section c).records ≡ []
footer_closes c item main free closed = elim (cases_Bool (closes c.frame c.section)) [
  | inl t ↦
      let t1 = passed _ stream_fault.Footer ((has_tail (closes c.frame c.section) c, stream_fault.Tail) ∷ []) free in
      let t2 = passed (has_tail (closes c.frame c.section) c) stream_fault.Tail [] t1.1 in
      let none : c.records ≡ [] = no_tail (closes c.frame c.section) c main t t2.0 in
      open_nil c.mode c.records none
  | inr f ↦ absurd (let e : TypeByte (footer_of c.section) ≡ Nothing = rw f at closed in cc)
]

capabilities_never : (m : ℕ) → capabilities_due m ≡ Nothing → ⊥
capabilities_never m e = elim (cases_Bool (m == 0)) [
  | inl t ↦ absurd (let f : TypeByte before.Configuration ≡ Nothing = rw t at e in cc)
  | inr n ↦ absurd (let f : Passed (Capability (m - 1)) ≡ Nothing = rw n at e in cc)
]

body_of_none : (o : Option Subsection) → is_none o ≡ false → body_of o ≡ Nothing → ⊥
body_of_none None some e = absurd cc
body_of_none (Some subsection) some e = absurd cc

list_never : (b : Bool) → cond b RecordHead ListEntry ≡ Nothing → ⊥
list_never true e = absurd cc
list_never false e = absurd cc

entry_never : (form : EntryForm) (last : Bool) → entry_due form last ≡ Nothing → ⊥
entry_never Plain last e = list_never last e
entry_never Addressed last e = absurd cc
entry_never Sized last e = absurd cc

-- no item that is passed over closes a stream
passed_never : (c : StreamProgress) (p : PassedItem) (item : List ℕ) → first_of (faults c (Passed p) item) ≡ None → behind_passed p item ≡ Nothing → ⊥
passed_never c (Command before) item free e = absurd cc
passed_never c SubsectionHead item free e =
    let t = passed (is_none (subsection_of (id_in item)) || not (be32_at (1 + slice_index item 0) item == subsection_version))
    stream_fault.Subsection [] free in
    body_of_none (subsection_of (id_in item))
    (or_parts (is_none (subsection_of (id_in item))) (not (be32_at (1 + slice_index item 0) item == subsection_version)) t.0).0 e
passed_never c (SubsectionBody PageBits) item free e = absurd cc
passed_never c (SubsectionBody Uuid) item free e = absurd cc
passed_never c (SubsectionBody Capabilities) item free e = capabilities_never (be32_at 0 item) e
passed_never c (Capability others) item free e = capabilities_never others e
passed_never c (Address last) item free e = list_never last e
passed_never c (Early before early.Head) item free e = absurd cc
passed_never c (Early before (early.Numbers id)) item free e = absurd cc
passed_never c (Early before (early.Plugged id others)) item free e = absurd cc
passed_never c (Early before (early.Footer id)) item free e = absurd cc

head_never : (c : StreamProgress) (k : Option RecordKind) (page : ℕ) → c.due ≢ Nothing → (after_head c k page).due ≡ Nothing → ⊥
head_never c None page here e = here e
head_never c (Some SizeList) page here e = absurd cc
head_never c (Some (Named f)) page here e = absurd cc
head_never c (Some (Continued f)) page here e = absurd cc
head_never c (Some EndOfSection) page here e = absurd cc
head_never c (Some Flush) page here e = absurd cc

config_never : (b : Bool) (n : ℕ) → cond b (TypeByte before.Configuration) (ConfigName n) ≡ Nothing → ⊥
config_never true n e = absurd cc
config_never false n e = absurd cc

item_closes : (c : StreamProgress) (d : Due) (item : List ℕ) → c.due ≡ d → is_single c.mode ≡ false
    → first_of (faults c d item) ≡ None → d ≢ Nothing → (after_item c d item).due ≡ Nothing
    → (after_item c d item).records ≡ []
item_closes c FileHeader item here main free some closed = absurd cc
item_closes c (TypeByte before) item here main free some closed = type_closes c before item main free closed
item_closes c ConfigLength item here main free some closed = absurd (config_never (be32_at 0 item == 0) (be32_at 0 item) closed)
item_closes c (ConfigName n) item here main free some closed = absurd cc
item_closes c StartHead item here main free some closed = absurd cc
item_closes c SectionHead item here main free some closed = absurd cc
item_closes c RecordHead item here main free some closed = absurd (head_never c _ _ (λ e. some (sym here ∙ e)) closed)
item_closes c ListEntry item here main free some closed = absurd (entry_never c.form _ closed)
item_closes c (PageSize true) item here main free some closed = elim (cases_Bool (is_page_size item)) [
  | inl t ↦ absurd (let e : RecordHead ≡ Nothing = rw t at closed in cc)
  | inr n ↦ absurd (head_never c _ _ (λ e. some (sym here ∙ e)) (rw n at closed))
]
item_closes c (PageSize false) item here main free some closed = elim (cases_Bool (is_page_size item)) [
  | inl t ↦ absurd (let e : ListEntry ≡ Nothing = rw t at closed in cc)
  | inr n ↦ absurd (entry_never c.form _ (rw n at closed))
]
item_closes c (BlockName f page) item here main free some closed = absurd cc
item_closes c (Content Zero place) item here main free some closed = absurd cc
item_closes c (Content Normal place) item here main free some closed = absurd cc
item_closes c Footer item here main free some closed = footer_closes c item main free closed
item_closes c (Passed p) item here main free some closed = absurd (passed_never c p item free closed)
item_closes c Nothing item here main free some closed = absurd (some refl)

-- once the end is reached no record waits
abbrev IsFlushed : StreamProgress → Type 0
IsFlushed c = c.due ≡ Nothing → c.records ≡ []

all_flushed : (c : StreamProgress) (items : List (List ℕ)) → is_single c.mode ≡ false → IsFlushed c → AreFaultless c items → IsFlushed (after_all c items)
all_flushed c [] main so_far free = so_far
all_flushed c (item ∷ items) main so_far free =
    let there = (IsLater-front c (after c item) item (front_item c item free.0 free.1)).same_single ∙ main in
    all_flushed (after c item) items there (λ closed. item_closes c c.due item refl main free.1 free.0.is_due closed) free.2

-- no page record waits where a main stream has ended
pub closed_has_none : (frame : Frame) (m : Mode) (p limit : ℕ) (waiting : Option ℕ) (bytes : List ℕ) (to : StreamProgress)
    → is_single m ≡ false → Front (start frame m p limit waiting) bytes to → to.due ≡ Nothing → to.records ≡ []
closed_has_none frame m p limit waiting bytes to main f closed =
    let last : IsFlushed to = subst IsFlushed (sym f.leads_to) (all_flushed (start frame m p limit waiting) f.items main (λ e. refl) f.are_faultless) in
    last closed
