-- What a reading keeps to: few rounds, none before the table, and the page size.
use Rattle.std.proofs.Common.{◌≡◌, eqb, ℕ, ◌+◌, ◌-◌, ◌≤◌, ◌==◌, Bool, true, false, List, [], ◌∷◌, length, Option, Some, None, refl, sym, ap, subst, ◌∙◌, arith}
use Rattle.std.specs.Prelude.{is_none, is_some, slice_index, ⊤}
use Rattle.std.specs.Bool.{then_some}
use Rattle.std.specs.List.{concat}
use Rattle.std.specs.Option.{unwrap_or}
use Rattle.std.proofs.lemmas.List.{length-append}
use Rattle.std.proofs.lemmas.Bool.{cond_both, eqb-false, eqb-true, false_from_ne_true}
use Rattle.mig_mem.specs.RamTable.{RamTable}
use Rattle.mig_stream.specs.declared.item.Frame.{Frame}
use Rattle.mig_stream.specs.declared.item.Mode.{Mode}
use Rattle.mig_stream.specs.declared.item.Mode.TheVariants.{Single, Main, MainBySection, MainAsShown}
use Rattle.mig_mem.specs.declared.place.Place.{Place}
use Rattle.mig_stream.specs.declared.item.Filling.{Filling}
use Rattle.mig_stream.specs.declared.item.Filling.TheVariants.{Zero, Normal}
use Rattle.mig_stream.specs.declared.item.Before.{Before}
use Rattle.mig_stream.specs.declared.item.PassedItem.{PassedItem}
use Rattle.mig_stream.specs.declared.item.PassedItem.TheVariants.{Command, SubsectionHead, SubsectionBody, Capability, Address, Early}
use Rattle.mig_stream.specs.declared.item.EarlyPart.TheVariants as early
use Rattle.mig_stream.specs.declared.item.Subsection.{Subsection}
use Rattle.mig_stream.specs.declared.item.Subsection.TheVariants.{PageBits, Uuid, Capabilities}
use Rattle.mig_stream.specs.declared.item.EntryForm.{EntryForm}
use Rattle.mig_stream.specs.declared.item.EntryForm.TheVariants.{Plain, Addressed, Sized}
use Rattle.mig_stream.specs.declared.item.Due.{Due}
use Rattle.mig_stream.specs.declared.item.Due.TheVariants.{FileHeader, TypeByte, ConfigLength, ConfigName, StartHead, SectionHead, RecordHead, ListEntry}
use Rattle.mig_stream.specs.declared.item.Due.TheVariants.{PageSize, BlockName, Content, Footer, Passed, Nothing}
use Rattle.mig_stream.specs.declared.item.RecordKind.{RecordKind}
use Rattle.mig_stream.specs.declared.item.RecordKind.TheVariants.{SizeList, Named, Continued, EndOfSection, Flush}
use Rattle.mig_stream.specs.declared.fault.StreamFault.{StreamFault}
use Rattle.mig_stream.specs.Fields.{be32_at}
use Rattle.mig_stream.specs.PageRecord.{PageRecord}
use Rattle.mig_stream.specs.Progress.{StreamProgress, start, is_used_up, table_of, whole_table}
use Rattle.mig_mem.specs.First.{first_of}
use Rattle.mig_stream.specs.Items.{id_in, is_passed, passed_by, subsection_of, body_of, capabilities_due, entry_due, behind_passed, after_type_byte, size}
use Rattle.mig_stream.specs.Items.{length_in, is_page_size, kind_faults, head_faults, record_faults, faults, after_type, after_kind, after_head, after_entry}
use Rattle.mig_stream.specs.Items.{whole_rounds, after_item, after, eos_rounds, is_start, has_none, flush_ends, flush_rounds}
use Rattle.mig_stream.specs.Reading.{AreFaultless, after_all, Front}
use Rattle.mig_stream.specs.Law.{ReadingsKeepLimits}
use Rattle.mig_stream.proofs.Steps.{passed, not_size, IsLater-front}

-- ---- no more rounds than bytes

-- at most this many more rounds
abbrev HasFew : List (List PageRecord) → ℕ → StreamProgress → Type 0
HasFew rounds n c = length c.rounds ≤ length rounds + n

few_type : (c : StreamProgress) (byte n : ℕ) → HasFew c.rounds n (after_type c byte)
few_type c byte n =
    cond_both (eqb byte 7) _ _ (HasFew c.rounds n) (λ _. omega arith) (λ _.
    cond_both (eqb byte 1) _ _ (HasFew c.rounds n) (λ _. omega arith) (λ _.
    cond_both (eqb byte 2) _ _ (HasFew c.rounds n) (λ _. omega arith) (λ _.
    cond_both (eqb byte 3) _ _ (HasFew c.rounds n) (λ _. omega arith) (λ _. omega arith))))

few_type_byte : (c : StreamProgress) (before : Before) (byte n : ℕ) → HasFew c.rounds n (after_type_byte c before byte)
few_type_byte c before byte n = cond_both (is_passed c.frame c.section before byte) _ _ (HasFew c.rounds n) (λ _. omega arith) (λ _. few_type c byte n)

few_eos : (mode : Mode) (rounds : List (List PageRecord)) (records : List PageRecord) → length (eos_rounds mode rounds records) ≤ length rounds + 1
few_eos Single rounds records = omega arith
few_eos Main rounds records = omega arith
few_eos MainBySection rounds records = omega (arith, length-append rounds (records ∷ []))
few_eos MainAsShown rounds records = omega (arith, length-append rounds (records ∷ []))

few_flush : (ends : Bool) (rounds : List (List PageRecord)) (records : List PageRecord) → length (flush_rounds ends rounds records) ≤ length rounds + 1
few_flush true rounds records = omega (arith, length-append rounds (records ∷ []))
few_flush false rounds records = omega arith

few_head : (c : StreamProgress) (kind : Option RecordKind) (page n : ℕ) → 1 ≤ n → HasFew c.rounds n (after_head c kind page)
few_head c None page n some = omega arith
few_head c (Some SizeList) page n some = omega arith
few_head c (Some (Named filling)) page n some = omega arith
few_head c (Some (Continued filling)) page n some = omega arith
few_head c (Some EndOfSection) page n some = omega (arith, some, few_eos c.mode c.rounds c.records)
few_head c (Some Flush) page n some = omega (arith, some, few_flush (flush_ends c.mode (is_start c.section) (has_none c.records)) c.rounds c.records)

few_whole : (mode : Mode) (rounds : List (List PageRecord)) (records : List PageRecord) → length (whole_rounds mode rounds records) ≤ length rounds + 1
few_whole Single rounds records = omega (arith, length-append rounds (records ∷ []))
few_whole Main rounds records = omega arith
few_whole MainBySection rounds records = omega arith
few_whole MainAsShown rounds records = omega arith

-- an item makes one round whole at most, and none if it is empty
few_item : (c : StreamProgress) (d : Due) (item : List ℕ) → length item ≡ size c.page_size d item → HasFew c.rounds (length item) (after_item c d item)
few_item c FileHeader item whole = omega arith
few_item c (TypeByte before) item whole = few_type_byte c before (slice_index item 0) (length item)
few_item c ConfigLength item whole = omega arith
few_item c (ConfigName len) item whole = omega arith
few_item c StartHead item whole = omega arith
few_item c SectionHead item whole = omega arith
few_item c RecordHead item whole = few_head c _ _ (length item) (omega arith)
few_item c ListEntry item whole = omega arith
few_item c (PageSize true) item whole = cond_both (is_page_size item) _ _ (HasFew c.rounds (length item)) (λ _. omega arith)
    (λ _. few_head c _ _ (length item) (omega (arith, whole)))
few_item c (PageSize false) item whole = cond_both (is_page_size item) _ _ (HasFew c.rounds (length item)) (λ _. omega arith) (λ _. omega arith)
few_item c (BlockName filling page) item whole = omega arith
few_item c (Content Zero place) item whole = omega arith
few_item c (Content Normal place) item whole = omega arith
few_item c Footer item whole = omega (arith, few_whole c.mode c.rounds c.records)
few_item c (Passed passed) item whole = omega arith
few_item c Nothing item whole = omega arith

few_all : (c : StreamProgress) (items : List (List ℕ)) → AreFaultless c items → HasFew c.rounds (length (concat items)) (after_all c items)
few_all c [] free = omega arith
few_all c (item ∷ items) free =
    omega (arith, few_item c c.due item free.0.is_whole, few_all (after c item) items free.2, length-append item (concat items))

-- ---- no round and no record before the table

-- Before the size list neither a footer is due nor a part of a page record. In it each item is an
-- entry, or follows one that isn't the last.
abbrev IsNoFooter : Due → Type 0
IsNoFooter Footer = ⊥
IsNoFooter (PageSize last) = ⊥
IsNoFooter (BlockName filling page) = ⊥
IsNoFooter (Content filling place) = ⊥
IsNoFooter d = ⊤

abbrev IsEntry : Due → Type 0
IsEntry ListEntry = ⊤
IsEntry (PageSize false) = ⊤
IsEntry (Passed (Address false)) = ⊤
IsEntry d = ⊥

abbrev MayBeDue : Option ℕ → Due → Type 0
MayBeDue None d = IsNoFooter d
MayBeDue (Some left) d = IsEntry d

-- no round is whole before the size list is used up, and no record is there
abbrev Waits : StreamProgress → Due → Type 0
Waits c d = is_used_up c.left ≡ false → (c.rounds ≡ []) × (c.records ≡ []) × MayBeDue c.left d

abbrev IsWaiting : StreamProgress → Type 0
IsWaiting c = Waits c c.due

-- what follows an item that is no entry
moved : (left : Option ℕ) (d e : Due) → (IsEntry d → ⊥) → IsNoFooter e → MayBeDue left d → MayBeDue left e
moved None d e other next h = next
moved (Some n) d e other next h = absurd (other h)

waits_on : (c : StreamProgress) (d e : Due) → (IsEntry d → ⊥) → IsNoFooter e → Waits c d → Waits c e
waits_on c d e other next w = λ open_. let h = w open_ in (h.0, h.1, moved c.left d e other next h.2)

waits_type : (c : StreamProgress) (d : Due) (byte : ℕ) → (IsEntry d → ⊥) → Waits c d → IsWaiting (after_type c byte)
waits_type c d byte other w =
    cond_both (eqb byte 7) _ _ IsWaiting (λ _. waits_on c d ConfigLength other tt w) (λ _.
    cond_both (eqb byte 1) _ _ IsWaiting (λ _. waits_on c d StartHead other tt w) (λ _.
    cond_both (eqb byte 2) _ _ IsWaiting (λ _. waits_on c d SectionHead other tt w) (λ _.
    cond_both (eqb byte 3) _ _ IsWaiting (λ _. waits_on c d SectionHead other tt w) (λ _.
    waits_on c d Nothing other tt w))))

waits_type_byte : (c : StreamProgress) (d : Due) (before : Before) (byte : ℕ) → (IsEntry d → ⊥) → Waits c d → IsWaiting (after_type_byte c before byte)
waits_type_byte c d before byte other w =
    cond_both (is_passed c.frame c.section before byte) _ _ IsWaiting (λ _. waits_on c d (Passed (passed_by before byte)) other tt w)
    (λ _. waits_type c d byte other w)

-- nothing that is passed over stands before a footer
capabilities_no_footer : (others : ℕ) → IsNoFooter (capabilities_due others)
capabilities_no_footer others = cond_both (eqb others 0) _ _ IsNoFooter (λ _. tt) (λ _. tt)

body_no_footer : (o : Option Subsection) → IsNoFooter (body_of o)
body_no_footer None = tt
body_no_footer (Some s) = tt

passed_no_footer : (passed : PassedItem) (item : List ℕ) → IsNoFooter (behind_passed passed item)
passed_no_footer (Command before) item = tt
passed_no_footer SubsectionHead item = body_no_footer (subsection_of (id_in item))
passed_no_footer (SubsectionBody PageBits) item = tt
passed_no_footer (SubsectionBody Uuid) item = tt
passed_no_footer (SubsectionBody Capabilities) item = capabilities_no_footer (be32_at 0 item)
passed_no_footer (Capability others) item = capabilities_no_footer others
passed_no_footer (Address true) item = tt
passed_no_footer (Address false) item = tt
passed_no_footer (Early before early.Head) item = tt
passed_no_footer (Early before (early.Numbers id)) item = tt
passed_no_footer (Early before (early.Plugged id others)) item = tt
passed_no_footer (Early before (early.Footer id)) item = tt

-- after the size list's head no record head is due before the list is used up
no_head : (left : Option ℕ) → is_none left ≡ false → MayBeDue left RecordHead → ⊥
no_head None some h = absurd cc
no_head (Some n) some h = h

not_begun : (left : Option ℕ) → is_some left ≡ false → is_used_up left ≡ false
not_begun None none = refl
not_begun (Some n) none = absurd cc

no_record : {X : Type 0} (c : StreamProgress) → Waits c RecordHead → is_none c.left ≡ false → is_used_up c.left ≡ false → X
no_record {X} c w begun open_ = absurd (no_head c.left begun (w open_).2)

-- the first of these tests doesn't hold
abbrev PassesFirst : List (Bool × StreamFault) → Type 0
PassesFirst [] = ⊤
PassesFirst (test ∷ tests) = test.0 ≡ false

passes_first : (tests : List (Bool × StreamFault)) → first_of tests ≡ None → PassesFirst tests
passes_first [] free = tt
passes_first (test ∷ tests) free = (passed test.0 test.1 tests free).0

waits_kind : (c : StreamProgress) (kind : RecordKind) (page : ℕ) → Waits c RecordHead → PassesFirst (kind_faults c kind page)
    → IsWaiting (after_kind c kind page)
waits_kind c SizeList page w none = λ _. ((w (not_begun c.left none)).0, (w (not_begun c.left none)).1, tt)
waits_kind c (Named filling) page w begun = λ open_. no_record c w begun open_
waits_kind c (Continued filling) page w begun = λ open_. no_record c w begun open_
waits_kind c EndOfSection page w begun = λ open_. no_record c w begun open_
waits_kind c Flush page w begun = λ open_. no_record c w begun open_

waits_head : (c : StreamProgress) (flags : ℕ) (kind : Option RecordKind) (page : ℕ) → Waits c RecordHead
    → first_of (head_faults c flags kind page) ≡ None → IsWaiting (after_head c kind page)
waits_head c flags None page w free = absurd (let clash = passes_first (head_faults c flags None page) free in cc)
waits_head c flags (Some kind) page w free = waits_kind c kind page w (passes_first (kind_faults c kind page) free)

-- if an entry leaves some bytes, some were left before it, and an entry follows
left_before : (left : Option ℕ) (n : ℕ) → (unwrap_or left 0 - n == 0) ≡ false → is_used_up left ≡ false
left_before None n open_ = refl
left_before (Some k) n open_ = false_from_ne_true (eqb k 0) (λ e. eqb-false (k - n) 0 open_ (omega (arith, eqb-true k 0 e)))

entry_follows : (form : EntryForm) (last : Bool) → last ≡ false → IsEntry (entry_due form last)
entry_follows form true open_ = absurd cc
entry_follows Plain false open_ = tt
entry_follows Addressed false open_ = tt
entry_follows Sized false open_ = tt

may_list : (left : Option ℕ) → MayBeDue left ListEntry
may_list None = tt
may_list (Some n) = tt

waits_entry : (c : StreamProgress) (d : Due) (item : List ℕ) → Waits c d → IsWaiting (after_entry c item)
waits_entry c d item w =
    λ open_. (
      (w (left_before c.left (length_in item) open_)).0,
      (w (left_before c.left (length_in item) open_)).1,
      entry_follows c.form (unwrap_or c.left 0 - length_in item == 0) open_,
    )

-- no page size is due of the last entry, before the list is used up
no_size : (left : Option ℕ) → MayBeDue left (PageSize true) → ⊥
no_size None h = h
no_size (Some n) h = h

waits_sized : (c : StreamProgress) (d : Due) → Waits c (PageSize true) → Waits c d
waits_sized c d w = λ open_. absurd (no_size c.left (w open_).2)

no_footer : (left : Option ℕ) → MayBeDue left Footer → ⊥
no_footer None h = h
no_footer (Some n) h = h

no_name : (left : Option ℕ) (filling : Filling) (page : ℕ) → MayBeDue left (BlockName filling page) → ⊥
no_name None filling page h = h
no_name (Some n) filling page h = h

no_content : (left : Option ℕ) (filling : Filling) (place : Place) → MayBeDue left (Content filling place) → ⊥
no_content None filling place h = h
no_content (Some n) filling place h = h

waits_item : (c : StreamProgress) (d : Due) (item : List ℕ) → IsWaiting c → Waits c d → first_of (faults c d item) ≡ None → IsWaiting (after_item c d item)
waits_item c FileHeader item v w free = waits_on c FileHeader _ (λ h. h) tt w
waits_item c (TypeByte before) item v w free = waits_type_byte c (TypeByte before) before (slice_index item 0) (λ h. h) w
waits_item c ConfigLength item v w free = waits_on c ConfigLength _ (λ h. h) (cond_both (eqb (be32_at 0 item) 0) _ _ IsNoFooter (λ _. tt) (λ _. tt)) w
waits_item c (ConfigName len) item v w free = waits_on c (ConfigName len) _ (λ h. h) tt w
waits_item c StartHead item v w free = waits_on c StartHead RecordHead (λ h. h) tt w
waits_item c SectionHead item v w free = waits_on c SectionHead RecordHead (λ h. h) tt w
waits_item c RecordHead item v w free = waits_head c _ _ _ w free
waits_item c ListEntry item v w free = waits_entry c ListEntry item w
waits_item c (PageSize true) item v w free =
    cond_both (is_page_size item) _ _ IsWaiting (λ _. waits_sized c RecordHead w)
    (λ isnt. waits_head c _ _ _ (waits_sized c RecordHead w) (not_size (is_page_size item) (record_faults c item) isnt free))
waits_item c (PageSize false) item v w free =
    cond_both (is_page_size item) _ _ IsWaiting (λ _ open_. ((w open_).0, (w open_).1, may_list c.left)) (λ _. waits_entry c (PageSize false) item w)
waits_item c (BlockName filling page) item v w free = λ open_. absurd (no_name c.left filling page (w open_).2)
waits_item c (Content Zero place) item v w free = λ open_. absurd (no_content c.left Zero place (w open_).2)
waits_item c (Content Normal place) item v w free = λ open_. absurd (no_content c.left Normal place (w open_).2)
waits_item c Footer item v w free = λ open_. absurd (no_footer c.left (w open_).2)
waits_item c (Passed (Command before)) item v w free = waits_on c (Passed (Command before)) _ (λ h. h) (passed_no_footer (Command before) item) w
waits_item c (Passed SubsectionHead) item v w free = waits_on c (Passed SubsectionHead) _ (λ h. h) (passed_no_footer SubsectionHead item) w
waits_item c (Passed (SubsectionBody kind)) item v w free = waits_on c (Passed (SubsectionBody kind)) _ (λ h. h) (passed_no_footer (SubsectionBody kind) item) w
waits_item c (Passed (Capability others)) item v w free = waits_on c (Passed (Capability others)) _ (λ h. h) (passed_no_footer (Capability others) item) w
waits_item c (Passed (Address true)) item v w free = waits_on c (Passed (Address true)) _ (λ h. h) tt w
waits_item c (Passed (Address false)) item v w free = λ open_. ((w open_).0, (w open_).1, may_list c.left)
waits_item c (Passed (Early before part)) item v w free =
    waits_on c (Passed (Early before part)) _ (λ h. h) (passed_no_footer (Early before part) item) w
waits_item c Nothing item v w free = v

waits_all : (c : StreamProgress) (items : List (List ℕ)) → IsWaiting c → AreFaultless c items → IsWaiting (after_all c items)
waits_all c [] v free = v
waits_all c (item ∷ items) v free = waits_all (after c item) items (waits_item c c.due item v v free.1) free.2

-- ---- the law

no_table : (b : Bool) (t : RamTable) → then_some b t ≡ None → b ≡ false
no_table true t e = absurd cc
no_table false t e = refl

the_table : (b : Bool) (t u : RamTable) → then_some b t ≡ Some u → u ≡ t
the_table true t u e = let back : Some u ≡ Some t = sym e in cc
the_table false t u e = absurd cc

-- a front has few rounds
pub few_front : (frame : Frame) (mode : Mode) (page_size limit : ℕ) (waiting : Option ℕ) (bytes : List ℕ) (c : StreamProgress)
    → Front (start frame mode page_size limit waiting) bytes c → length c.rounds ≤ length bytes
few_front frame mode page_size limit waiting bytes c f =
    let few : HasFew [] (length (concat f.items)) c =
    subst (HasFew [] (length (concat f.items))) (sym f.leads_to) (few_all (start frame mode page_size limit waiting) f.items f.are_faultless) in
    omega (arith, few, ap length f.has_bytes)

-- and before its table neither a round nor a record
pub none_first : (frame : Frame) (mode : Mode) (page_size limit : ℕ) (waiting : Option ℕ) (bytes : List ℕ) (c : StreamProgress)
    → Front (start frame mode page_size limit waiting) bytes c → whole_table c ≡ None → (c.rounds ≡ []) × (c.records ≡ [])
none_first frame mode page_size limit waiting bytes c f none =
    let waits : IsWaiting c = subst IsWaiting (sym f.leads_to)
    (waits_all (start frame mode page_size limit waiting) f.items (λ open_. (refl, refl, tt)) f.are_faultless) in
    let both = waits (no_table (is_used_up c.left) (table_of c) none) in
    (both.0, both.1)

-- A stream has few rounds, none before its table, and the page size that was passed.
pub limits_law : ReadingsKeepLimits
limits_law = λ given text reading size_is is.
    let from : StreamProgress = start given.frame given.mode given.page_size given.limit given.waiting in
    let f : Front from is.reads.front is.to = is.reads.leads in
    let few : HasFew [] (length (concat f.items)) is.to = subst (HasFew [] (length (concat f.items))) (sym f.leads_to) (few_all from f.items f.are_faultless) in
    let waits : IsWaiting is.to = subst IsWaiting (sym f.leads_to) (waits_all from f.items (λ open_. (refl, refl, tt)) f.are_faultless) in
    record {
      has_few = omega (arith, few, ap length is.has_rounds, ap length is.reads.has_text, ap length f.has_bytes, length-append is.reads.front is.rest);
      has_table_first = λ none. is.has_rounds ∙ (waits (no_table (is_used_up is.to.left) (table_of is.to) (sym is.has_table ∙ none))).0;
      has_page_size = λ table some.
          ap (λ (t : RamTable). t.page_size) (the_table (is_used_up is.to.left) (table_of is.to) table (sym is.has_table ∙ some))
          ∙ (IsLater-front from is.to is.reads.front f).same_page_size;
    }
