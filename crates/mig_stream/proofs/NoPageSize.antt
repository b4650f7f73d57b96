-- Where the page size of a block may be and isn't, what is there is read as where none may be.
use Rattle.std.proofs.Common.{◌≡◌, ℕ, ◌+◌, ◌/◌, ◌%◌, ◌<◌, ◌≤◌, Bool, true, false, not, cond, eqb, List, [], ◌∷◌, length, get_or, Option, Some, None, refl, sym}
use Rattle.std.proofs.Common.{ap, subst, ◌∙◌, inl, inr, arith}
use Rattle.std.specs.Prelude.{◌&&◌}
use Rattle.std.specs.List.{concat}
use Rattle.std.proofs.lemmas.Bool.{ne_eqb, eqb-false, false_from_ne_true}
use Rattle.mig_mem.specs.First.{first_of}
use Rattle.mig_mem.specs.PageSize.{IsPageSize}
use Rattle.mig_mem.specs.RamTable.{is_id}
use Rattle.mig_mem.proofs.Blocks.{id_length}
use Rattle.mig_stream.specs.declared.item.Filling.TheVariants.{Zero, Normal}
use Rattle.mig_stream.specs.declared.item.RecordKind.{RecordKind}
use Rattle.mig_stream.specs.declared.item.RecordKind.TheVariants.{SizeList, Named, Continued, EndOfSection, Flush}
use Rattle.mig_stream.specs.declared.item.Due.{Due}
use Rattle.mig_stream.specs.declared.item.Due.TheVariants.{TypeByte, RecordHead, ListEntry, PageSize, Nothing}
use Rattle.mig_stream.specs.declared.item.Before.{Before}
use Rattle.mig_stream.specs.Fields.{be64_at}
use Rattle.mig_stream.specs.Format.{flags_of, least_page_size}
use Rattle.mig_stream.specs.Progress.{StreamProgress}
use Rattle.mig_stream.specs.Items.{id_in, is_page_size, record_kind, head_faults, record_faults, entry_faults, list_due, first_fault, after_kind, after_head}
use Rattle.mig_stream.specs.Items.{after_record, after_entry, after}
use Rattle.mig_stream.specs.Reading.{AreFaultless, after_all, Front}
use Rattle.mig_stream.proofs.Fronts.{sized}
use Rattle.mig_stream.proofs.SpelledItems.{flags_small}
use Rattle.mig_stream.proofs.FoundFields.{kind_found}
use Rattle.mig_stream.proofs.FoundParts.{length_slice}
use Rattle.mig_stream.proofs.FoundList.{IsEntry, entry_is}

-- ---- what is no page size

-- each kind of record has a flag
flags_some : (kind : RecordKind) → 0 < flags_of kind
flags_some SizeList = omega arith
flags_some (Named Zero) = omega arith
flags_some (Named Normal) = omega arith
flags_some (Continued Zero) = omega arith
flags_some (Continued Normal) = omega arith
flags_some EndOfSection = omega arith
flags_some Flush = omega arith

-- so a record head is no multiple of 4,096
no_multiple : (p n : ℕ) (kind : RecordKind) → IsPageSize p → n % p ≡ flags_of kind → n % 4096 ≡ 0 → ⊥
no_multiple p n kind is flags none =
    elim is [
      | inl e ↦
          let here : n % 4096 ≡ flags_of kind = ap (λ (x : ℕ). n % x) (sym e) ∙ flags in
          omega (arith, here, none, flags_some kind)
      | inr e ↦
          let here : n % 8192 ≡ flags_of kind = ap (λ (x : ℕ). n % x) (sym e) ∙ flags in
          omega (arith, here, none, flags_some kind, flags_small kind)
    ]

last_false : (x y z : Bool) → z ≡ false → (x && (y && z)) ≡ false
last_false true true z e = e
last_false true false z e = refl
last_false false y z e = refl

-- a record head is no page size
pub head_unsized : (p : ℕ) (item : List ℕ) (kind : RecordKind) → IsPageSize p → be64_at 0 item % p ≡ flags_of kind → is_page_size item ≡ false
head_unsized p item kind is flags =
    let n : ℕ = be64_at 0 item in
    let odd : eqb (n % least_page_size) 0 ≡ false = ne_eqb (n % least_page_size) 0 (λ e. no_multiple p n kind is flags e) in
    last_false (eqb (get_or item 0 0) 0) (not (eqb n 0)) (eqb (n % least_page_size) 0) odd

-- the first byte of an entry is the length of its id
pub named_first : (item : List ℕ) → 1 ≤ length item → is_id (id_in item) ≡ true → eqb (get_or item 0 0) 0 ≡ false
named_first item some named =
    let n : ℕ = get_or item 0 0 in
    let long : 0 < length (id_in item) = (id_length (id_in item) named).0 in
    ne_eqb n 0 (λ e.
    let len : length (id_in item) ≡ n = length_slice item 1 n (omega (arith, e, some)) in
    omega (arith, long, len, e))

-- an id of no bytes is none
pub empty_id : (item : List ℕ) → 1 ≤ length item → get_or item 0 0 ≡ 0 → is_id (id_in item) ≡ false
empty_id item some none = false_from_ne_true (is_id (id_in item)) (λ named. eqb-false (get_or item 0 0) 0 (named_first item some named) none)

-- eight bytes that begin with another byte than 0 are no page size
pub first_unsized : (item : List ℕ) → eqb (get_or item 0 0) 0 ≡ false → is_page_size item ≡ false
first_unsized item some = ap (λ (b : Bool). b && (not (eqb (be64_at 0 item) 0) && eqb (be64_at 0 item % least_page_size) 0)) some

-- ---- what is due before a record head is judged doesn't matter

-- a head of a record without a fault is of a known kind
pub known_kind : (c : StreamProgress) (flags : ℕ) (kind : Option RecordKind) (page : ℕ)
    → first_of (head_faults c flags kind page) ≡ None → (known : RecordKind) × (kind ≡ Some known)
known_kind c flags None page free = absurd cc
known_kind c flags (Some kind) page free = (kind, refl)

due_faults : (c : StreamProgress) (d e : Due) (flags : ℕ) (kind : Option RecordKind) (page : ℕ)
    → head_faults (record c { due = d }) flags kind page ≡ head_faults (record c { due = e }) flags kind page
due_faults c d e flags None page = refl
due_faults c d e flags (Some SizeList) page = refl
due_faults c d e flags (Some (Named f)) page = refl
due_faults c d e flags (Some (Continued f)) page = refl
due_faults c d e flags (Some EndOfSection) page = refl
due_faults c d e flags (Some Flush) page = refl

due_after : (c : StreamProgress) (d e : Due) (kind : RecordKind) (page : ℕ)
    → after_kind (record c { due = d }) kind page ≡ after_kind (record c { due = e }) kind page
due_after c d e SizeList page = refl
due_after c d e (Named f) page = refl
due_after c d e (Continued f) page = refl
due_after c d e EndOfSection page = refl
due_after c d e Flush page = refl

-- ---- fronts

-- records after the last entry
pub unsized_record : (c d : StreamProgress) (bytes : List ℕ) → IsPageSize c.page_size → (d.due ≡ RecordHead → ⊥)
    → Front (record c { due = RecordHead }) bytes d → Front (record c { due = PageSize true }) bytes d
unsized_record c d bytes size other f = go f.items f.has_bytes f.are_faultless f.leads_to
  where
    go : (items : List (List ℕ)) → bytes ≡ concat items → AreFaultless (record c { due = RecordHead }) items
        → d ≡ after_all (record c { due = RecordHead }) items → Front (record c { due = PageSize true }) bytes d
    go [] has free leads = absurd (other (ap (λ (x : StreamProgress). x.due) leads))
    go (item ∷ items) has free leads =
        let h : StreamProgress = record c { due = RecordHead } in
        let s : StreamProgress = record c { due = PageSize true } in
        let flags : ℕ = be64_at 0 item % c.page_size in
        let page : ℕ = be64_at 0 item / c.page_size in
        let known = known_kind h flags (record_kind flags) page free.1 in
        let isnt : is_page_size item ≡ false = head_unsized c.page_size item known.0 size (kind_found flags known.0 known.1) in
        let none : first_fault s item ≡ None =
        ap (λ (b : Bool). first_of (cond b [] (record_faults s item))) isnt
        ∙ ap first_of (due_faults c (PageSize true) RecordHead flags (record_kind flags) page) ∙ free.1 in
        let new : after s item ≡ after h item =
        ap (λ (b : Bool). cond b (record s { due = RecordHead }) (after_record s item)) isnt ∙ ap (λ (k : Option RecordKind). after_head s k page) known.1
        ∙ due_after c (PageSize true) RecordHead known.0 page ∙ sym (ap (λ (k : Option RecordKind). after_head h k page) known.1) in
        record {
          items = item ∷ items;
          has_bytes = has;
          are_faultless = (
            record { is_due = λ e. absurd cc; is_whole = free.0.is_whole },
            none,
            subst (λ (x : StreamProgress). AreFaultless x items) (sym new) free.2,
          );
          leads_to = leads ∙ ap (λ (x : StreamProgress). after_all x items) (sym new);
        }

-- an entry after another one
pub unsized_entry : (c d : StreamProgress) (bytes : List ℕ) → (d.due ≡ ListEntry → ⊥)
    → Front (record c { due = ListEntry }) bytes d → Front (record c { due = PageSize false }) bytes d
unsized_entry c d bytes other f = go f.items f.has_bytes f.are_faultless f.leads_to
  where
    go : (items : List (List ℕ)) → bytes ≡ concat items → AreFaultless (record c { due = ListEntry }) items
        → d ≡ after_all (record c { due = ListEntry }) items → Front (record c { due = PageSize false }) bytes d
    go [] has free leads = absurd (other (ap (λ (x : StreamProgress). x.due) leads))
    go (item ∷ items) has free leads =
        let h : StreamProgress = record c { due = ListEntry } in
        let s : StreamProgress = record c { due = PageSize false } in
        let n : ℕ = get_or item 0 0 in
        let len : length item ≡ 9 + n = free.0.is_whole in
        let entry : IsEntry h item = entry_is h item free.1 in
        let some : eqb n 0 ≡ false = named_first item (omega (arith, len)) entry.has_id in
        let isnt : is_page_size item ≡ false = first_unsized item some in
        let whole : length item ≡ sized n = len ∙ sym (ap (λ (b : Bool). cond b 8 (9 + n)) some) in
        let none : first_fault s item ≡ None = ap (λ (b : Bool). first_of (cond b [] (entry_faults s item))) isnt ∙ free.1 in
        let new : after s item ≡ after h item = ap (λ (b : Bool). cond b (record s { due = ListEntry }) (after_entry s item)) isnt in
        record {
          items = item ∷ items;
          has_bytes = has;
          are_faultless = (record { is_due = λ e. absurd cc; is_whole = whole }, none, subst (λ (x : StreamProgress). AreFaultless x items) (sym new) free.2);
          leads_to = leads ∙ ap (λ (x : StreamProgress). after_all x items) (sym new);
        }

-- neither a record nor an entry of the size list is due
pub record IsElsewhere (d : Due) : Type 0 where
  pub no_record : d ≡ RecordHead → ⊥
  pub no_entry : d ≡ ListEntry → ⊥

pub nothing_elsewhere : IsElsewhere Nothing
nothing_elsewhere = record { no_record = λ e. absurd cc; no_entry = λ e. absurd cc }

pub type_elsewhere : (b : Before) → IsElsewhere (TypeByte b)
type_elsewhere b = record { no_record = λ e. absurd cc; no_entry = λ e. absurd cc }

-- A front that leads elsewhere from what is due after an entry is one from its page size, which
-- isn't there.
pub unsized_front : (c d : StreamProgress) (last : Bool) (bytes : List ℕ) → IsPageSize c.page_size → IsElsewhere d.due
    → Front (record c { due = list_due last }) bytes d → Front (record c { due = PageSize last }) bytes d
unsized_front c d true bytes size elsewhere f = unsized_record c d bytes size elsewhere.no_record f
unsized_front c d false bytes size elsewhere f = unsized_entry c d bytes elsewhere.no_entry f
