-- A main stream whose EOS ends a round too is read as the same stream with a FLUSH before each EOS.
use Rattle.std.proofs.Common.{◌≡◌, ◌⊎◌, inl, inr, ℕ, cond, ◌+◌, ◌*◌, ◌/◌, ◌%◌, Bool, true, false, not, ◌&&◌, ◌||◌, ◌==◌, List, [], ◌∷◌, ◌++◌, length, Option}
use Rattle.std.proofs.Common.{Some, None, refl, sym, ap, subst, ◌∙◌, arith}
use Rattle.std.specs.Prelude.{slice_index, is_none}
use Rattle.std.specs.List.{concat}
use Rattle.std.proofs.lemmas.List.{length-append}
use Rattle.mig_mem.specs.PageSize.{IsPageSize}
use Rattle.mig_mem.specs.First.{first_of}
use Rattle.mig_stream.specs.declared.item.Mode.{Mode}
use Rattle.mig_stream.specs.declared.item.Mode.TheVariants.{Main, MainBySection}
use Rattle.mig_stream.specs.declared.item.Filling.TheVariants.{Zero, Normal}
use Rattle.mig_stream.specs.declared.item.Due.{Due}
use Rattle.mig_stream.specs.declared.item.Due.TheVariants.{FileHeader, TypeByte, ConfigLength, ConfigName, StartHead, SectionHead, RecordHead, ListEntry}
use Rattle.mig_stream.specs.declared.item.Due.TheVariants.{PageSize, BlockName, Content, Footer, Passed, Nothing}
use Rattle.mig_stream.specs.declared.item.RecordKind.{RecordKind}
use Rattle.mig_stream.specs.declared.item.RecordKind.TheVariants.{SizeList, Named, Continued, EndOfSection, Flush}
use Rattle.mig_stream.specs.declared.item.StreamState.{StreamState}
use Rattle.mig_stream.specs.declared.item.StreamState.TheVariants.{Reading, Closed, Bad}
use Rattle.mig_stream.specs.declared.item.Before.{Before}
use Rattle.mig_stream.specs.declared.fault.StreamFault.{StreamFault}
use Rattle.mig_stream.specs.declared.fault.StreamFault.TheVariants as fault
use Rattle.mig_stream.specs.Fields.{be64, be64_at, be32_at}
use Rattle.mig_stream.specs.Format.{end_byte, footer_type, flags_of}
use Rattle.mig_stream.specs.Progress.{StreamProgress}
use Rattle.mig_stream.specs.Items.{size, is_page_size, record_kind, is_single, has_tail, is_allowed, is_passed, closes, passed_by, after_type_byte, kind_faults}
use Rattle.mig_stream.specs.Items.{head_faults, record_faults, faults, first_fault, after_type, after_head, after_record, after_entry, end_round, open_room}
use Rattle.mig_stream.specs.Items.{open_records, whole_rounds, end_section, after_footer, after_item, after, eos_room, eos_records, eos_rounds, end_records}
use Rattle.mig_stream.specs.Items.{is_start, has_none, flush_ends, flush_rounds, flush_records, is_machine, ends_before}
use Rattle.mig_stream.specs.Later.{is_open}
use Rattle.mig_stream.specs.Reading.{IsItem, AreFaultless, after_all, Front, Ends, Reads}
use Rattle.mig_stream.specs.Flushed.{is_eos_kind, is_eos, flush_before, flushed, one_if, eos_count, from, SectionsAreFlushed}
use Rattle.mig_stream.proofs.Fronts.{Front-none, Front-append}
use Rattle.mig_stream.proofs.Feeding.{front_item}
use Rattle.mig_stream.proofs.Later.{choice}
use Rattle.mig_stream.specs.declared.item.Frame.{Frame}
use Rattle.mig_stream.specs.declared.item.Section.{Section}
use Rattle.std.proofs.lemmas.Bool.{false_from_ne_true}
use Rattle.mig_stream.proofs.Stopping.{over_at, closed_due}
use Rattle.mig_stream.proofs.SpelledItems.{bare_front}
use Rattle.mig_stream.proofs.Steps.{IsLater-front, passed, not_size}
use Rattle.mig_stream.proofs.NoPageSize.{unsized_record}

-- the same point of a reading by FLUSH alone
abbrev to_flush : StreamProgress → StreamProgress
to_flush c = record c { mode = Main }

-- ---- the faults are the same

tail_same : (ends : Bool) (c : StreamProgress) → c.mode ≡ MainBySection → has_tail ends (to_flush c) ≡ has_tail ends c
tail_same ends c e = ap (λ (m : Mode). ends && not (is_single m) && not (length c.records == 0)) (sym e)

kind_faults_same : (c : StreamProgress) (k : RecordKind) (page : ℕ) → c.mode ≡ MainBySection → kind_faults (to_flush c) k page ≡ kind_faults c k page
kind_faults_same c SizeList page e = refl
kind_faults_same c (Named f) page e = refl
kind_faults_same c (Continued f) page e = refl
kind_faults_same c EndOfSection page e = refl
kind_faults_same c Flush page e = ap (λ (m : Mode). (is_none c.left, fault.SizePlace) ∷ (
  is_single m,
  fault.Flush,
) ∷ (not (page == 0), fault.OffsetOut) ∷ []) (sym e)

head_faults_same : (c : StreamProgress) (flags : ℕ) (k : Option RecordKind) (page : ℕ) → c.mode ≡ MainBySection
    → head_faults (to_flush c) flags k page ≡ head_faults c flags k page
head_faults_same c flags None page e = refl
head_faults_same c flags (Some k) page e = kind_faults_same c k page e

faults_same : (c : StreamProgress) (d : Due) (item : List ℕ) → c.mode ≡ MainBySection → faults (to_flush c) d item ≡ faults c d item
faults_same c FileHeader item e = refl
faults_same c (TypeByte before) item e =
    ap (λ (t : Bool). (not (is_allowed before (slice_index item 0) || is_passed c.frame c.section before (slice_index item 0)), fault.SectionType)
    ∷ (t, fault.Tail) ∷ [])
    (tail_same (slice_index item 0 == end_byte) c e)
faults_same c ConfigLength item e = refl
faults_same c (ConfigName n) item e = refl
faults_same c StartHead item e = refl
faults_same c SectionHead item e = refl
faults_same c RecordHead item e = head_faults_same c _ _ _ e
faults_same c ListEntry item e = refl
faults_same c (PageSize true) item e = ap (λ (t : List (Bool × StreamFault)). cond (is_page_size item) [] t) (head_faults_same c _ _ _ e)
faults_same c (PageSize false) item e = refl
faults_same c (BlockName f page) item e = refl
faults_same c (Content Zero place) item e = refl
faults_same c (Content Normal place) item e = refl
faults_same c Footer item e =
    ap (λ (t : Bool). (not (slice_index item 0 == footer_type && be32_at 1 item == c.section_id), fault.Footer) ∷ (t, fault.Tail) ∷ [])
    (tail_same (closes c.frame c.section) c e)
faults_same c (Passed passed) item e = refl
faults_same c Nothing item e = refl

-- ---- an item that is no EOS leads to the same point

after_type_same : (c : StreamProgress) (b : ℕ) → after_type (to_flush c) b ≡ to_flush (after_type c b)
after_type_same c b = sym (simp (choice to_flush))

after_type_byte_same : (c : StreamProgress) (before : Before) (b : ℕ) → after_type_byte (to_flush c) before b ≡ to_flush (after_type_byte c before b)
after_type_byte_same c before b =
    ap (λ (x : StreamProgress). cond (is_passed c.frame c.section before b) (to_flush (record c { due = Passed (passed_by before b) })) x) (after_type_same c b)
    ∙ sym (choice to_flush (is_passed c.frame c.section before b) (record c { due = Passed (passed_by before b) }) (after_type c b))

room_same : (waiting room : Option ℕ) → open_room Main waiting room ≡ open_room MainBySection waiting room
room_same None room = refl
room_same (Some n) room = refl

end_section_same : (c : StreamProgress) → c.mode ≡ MainBySection → end_section (to_flush c) ≡ to_flush (end_section c)
end_section_same c e =
    ap (λ (r : Option ℕ). record c { mode = Main; due = after_footer c.frame c.section; room = r }) (room_same c.waiting c.room)
    ∙ ap (λ (m : Mode). record c {
      mode = Main;
      due = after_footer c.frame c.section;
      room = open_room m c.waiting c.room;
      records = open_records m c.records;
      rounds = whole_rounds m c.rounds c.records;
    }) (sym e)

flush_records_same : (c : StreamProgress) → c.mode ≡ MainBySection → flush_records (to_flush c) ≡ to_flush (flush_records c)
flush_records_same c e =
    ap (λ (m : Mode). record c {
      mode = Main;
      due = RecordHead;
      room = c.waiting;
      records = [];
      rounds = flush_rounds (flush_ends m (is_start c.section) (has_none c.records)) c.rounds c.records;
    }) (sym e)

after_head_same : (c : StreamProgress) (k : Option RecordKind) (page : ℕ) → c.mode ≡ MainBySection → is_eos_kind k ≡ false
    → after_head (to_flush c) k page ≡ to_flush (after_head c k page)
after_head_same c None page e other = refl
after_head_same c (Some SizeList) page e other = refl
after_head_same c (Some (Named f)) page e other = refl
after_head_same c (Some (Continued f)) page e other = refl
after_head_same c (Some EndOfSection) page e other = absurd cc
after_head_same c (Some Flush) page e other = flush_records_same c e

-- where the page size of a block may be
sized_same : (c : StreamProgress) (item : List ℕ) (b : Bool) → c.mode ≡ MainBySection
    → (not b && is_eos_kind (record_kind (be64_at 0 item % c.page_size))) ≡ false
    → cond b (record (to_flush c) { due = RecordHead }) (after_record (to_flush c) item) ≡ to_flush
    (cond b (record c { due = RecordHead }) (after_record c item))
sized_same c item true e other = refl
sized_same c item false e other = after_head_same c (record_kind (be64_at 0 item % c.page_size)) (be64_at 0 item / c.page_size) e other

after_item_same : (c : StreamProgress) (d : Due) (item : List ℕ) → c.mode ≡ MainBySection → is_eos c.page_size d item ≡ false
    → after_item (to_flush c) d item ≡ to_flush (after_item c d item)
after_item_same c FileHeader item e other = refl
after_item_same c (TypeByte before) item e other = after_type_byte_same c before (slice_index item 0)
after_item_same c ConfigLength item e other = refl
after_item_same c (ConfigName n) item e other = refl
after_item_same c StartHead item e other = refl
after_item_same c SectionHead item e other = refl
after_item_same c RecordHead item e other = after_head_same c (record_kind (be64_at 0 item % c.page_size)) (be64_at 0 item / c.page_size) e other
after_item_same c ListEntry item e other = refl
after_item_same c (PageSize true) item e other = sized_same c item (is_page_size item) e other
after_item_same c (PageSize false) item e other = sym (choice to_flush (is_page_size item) (record c { due = ListEntry }) (after_entry c item))
after_item_same c (BlockName f page) item e other = refl
after_item_same c (Content Zero place) item e other = refl
after_item_same c (Content Normal place) item e other = refl
after_item_same c Footer item e other = end_section_same c e
after_item_same c (Passed passed) item e other = refl
after_item_same c Nothing item e other = refl

-- ---- an EOS leads there after a FLUSH

eos_due : (p : ℕ) (d : Due) (item : List ℕ) → is_eos p d item ≡ true → (d ≡ RecordHead) ⊎ (d ≡ PageSize true)
eos_due p RecordHead item e = inl refl
eos_due p (PageSize true) item e = inr refl
eos_due p (PageSize false) item e = absurd cc
eos_due p FileHeader item e = absurd cc
eos_due p (TypeByte before) item e = absurd cc
eos_due p ConfigLength item e = absurd cc
eos_due p (ConfigName n) item e = absurd cc
eos_due p StartHead item e = absurd cc
eos_due p SectionHead item e = absurd cc
eos_due p ListEntry item e = absurd cc
eos_due p (BlockName f page) item e = absurd cc
eos_due p (Content f place) item e = absurd cc
eos_due p Footer item e = absurd cc
eos_due p (Passed passed) item e = absurd cc
eos_due p Nothing item e = absurd cc

eos_kind : (k : Option RecordKind) → is_eos_kind k ≡ true → k ≡ Some EndOfSection
eos_kind None e = absurd cc
eos_kind (Some SizeList) e = absurd cc
eos_kind (Some (Named f)) e = absurd cc
eos_kind (Some (Continued f)) e = absurd cc
eos_kind (Some EndOfSection) e = refl
eos_kind (Some Flush) e = absurd cc

end_records_same : (c : StreamProgress) → c.mode ≡ MainBySection → end_records (end_round (record (to_flush c) { due = RecordHead })) ≡ to_flush (end_records c)
end_records_same c e = ap (λ (m : Mode). record c {
  mode = Main;
  due = Footer;
  room = eos_room m c.waiting c.room;
  records = eos_records m c.records;
  rounds = eos_rounds m c.rounds c.records;
}) (sym e)

eos_front : (c : StreamProgress) (item : List ℕ) → c.mode ≡ MainBySection → IsPageSize c.page_size
    → IsItem c.page_size RecordHead item → record_kind (be64_at 0 item % c.page_size) ≡ Some EndOfSection
    → first_of (faults c RecordHead item) ≡ None → Front (record (to_flush c) { due = RecordHead }) (be64 (flags_of Flush) ++ item) (to_flush (end_records c))
eos_front c item e paged is kind free =
    let d : StreamProgress = record (to_flush c) { due = RecordHead } in
    let s : StreamProgress = end_round d in
    let flags : ℕ = be64_at 0 item % c.page_size in
    let page : ℕ = be64_at 0 item / c.page_size in
    let told : first_of (kind_faults c EndOfSection page) ≡ None = sym (ap (λ (k : Option RecordKind). first_of (head_faults c flags k page)) kind) ∙ free in
    let begun : is_none c.left ≡ false = (passed (is_none c.left) fault.SizePlace ((not (page == 0), fault.OffsetOut) ∷ []) told).0 in
    let here : first_fault s item ≡ None = ap (λ (k : Option RecordKind). first_of (head_faults s flags k page)) kind ∙ told in
    let second : Front s item (after s item) = front_item s item (record { is_due = is.is_due; is_whole = is.is_whole }) here in
    let moved : after s item ≡ to_flush (end_records c) = ap (λ (k : Option RecordKind). after_head s k page) kind ∙ end_records_same c e in
    Front-append _ _ _ _ _ (bare_front d Flush paged (rw begun refl)) (subst (λ (x : StreamProgress). Front s item x) moved second)

-- ---- items one after another

step_record : (c : StreamProgress) (item : List ℕ) → c.due ≡ RecordHead → is_eos c.page_size c.due item ≡ true
    → c.mode ≡ MainBySection → IsPageSize c.page_size → IsItem c.page_size c.due item → first_fault c item ≡ None
    → Front (to_flush c) (flush_before true ++ item) (to_flush (after c item))
step_record c item due here e paged is free =
    let kind : record_kind (be64_at 0 item % c.page_size) ≡ Some EndOfSection =
    eos_kind (record_kind (be64_at 0 item % c.page_size)) (subst (λ (d : Due). is_eos c.page_size d item ≡ true) due here) in
    let is_head : IsItem c.page_size RecordHead item = record {
      is_due = λ x. absurd cc;
      is_whole = is.is_whole ∙ ap (λ (d : Due). size c.page_size d item) due;
    } in
    let free_head : first_of (faults c RecordHead item) ≡ None = ap (λ (d : Due). first_of (faults c d item)) (sym due) ∙ free in
    let f = eos_front c item e paged is_head kind free_head in
    let there : to_flush (after c item) ≡ to_flush (end_records c) =
    ap (λ (d : Due). to_flush (after_item c d item)) due ∙ ap (λ (k : Option RecordKind). to_flush (after_head c k (be64_at 0 item / c.page_size))) kind in
    subst (λ (x : StreamProgress). Front (to_flush c) (be64 (flags_of Flush) ++ item) x) (sym there)
    (subst (λ (d : Due). Front (record (to_flush c) { due = d }) (be64 (flags_of Flush) ++ item) (to_flush (end_records c))) (sym due) f)

-- no page size is there
sized_eos : (b x : Bool) → (not b && x) ≡ true → (b ≡ false) × (x ≡ true)
sized_eos true x e = absurd cc
sized_eos false x e = (refl, e)

step_sized : (c : StreamProgress) (item : List ℕ) → c.due ≡ PageSize true → is_eos c.page_size c.due item ≡ true
    → c.mode ≡ MainBySection → IsPageSize c.page_size → IsItem c.page_size c.due item → first_fault c item ≡ None
    → Front (to_flush c) (flush_before true ++ item) (to_flush (after c item))
step_sized c item due here e paged is free =
    let bytes : List ℕ = be64 (flags_of Flush) ++ item in
    let to : StreamProgress = to_flush (end_records c) in
    let both = sized_eos (is_page_size item) (is_eos_kind (record_kind (be64_at 0 item % c.page_size)))
    (subst (λ (d : Due). is_eos c.page_size d item ≡ true) due here) in
    let kind : record_kind (be64_at 0 item % c.page_size) ≡ Some EndOfSection = eos_kind (record_kind (be64_at 0 item % c.page_size)) both.1 in
    let is_head : IsItem c.page_size RecordHead item = record {
      is_due = λ x. absurd cc;
      is_whole = is.is_whole ∙ ap (λ (d : Due). size c.page_size d item) due;
    } in
    let free_head : first_of (faults c RecordHead item) ≡ None =
    not_size (is_page_size item) (record_faults c item) both.0 (ap (λ (d : Due). first_of (faults c d item)) (sym due) ∙ free) in
    let f : Front (record (to_flush c) { due = PageSize true }) bytes to =
    unsized_record (to_flush c) to bytes paged (λ x. absurd cc) (eos_front c item e paged is_head kind free_head) in
    let there : to_flush (after c item) ≡ to =
    ap (λ (d : Due). to_flush (after_item c d item)) due ∙ ap (λ (b : Bool). to_flush (cond b (record c { due = RecordHead }) (after_record c item))) both.0
    ∙ ap (λ (k : Option RecordKind). to_flush (after_head c k (be64_at 0 item / c.page_size))) kind in
    subst (λ (x : StreamProgress). Front (to_flush c) bytes x) (sym there) (subst (λ (d : Due). Front (record (to_flush c) { due = d }) bytes to) (sym due) f)

step : (c : StreamProgress) (item : List ℕ) (b : Bool) → is_eos c.page_size c.due item ≡ b → c.mode ≡ MainBySection
    → IsPageSize c.page_size → IsItem c.page_size c.due item → first_fault c item ≡ None
    → Front (to_flush c) (flush_before b ++ item) (to_flush (after c item))
step c item false other e paged is free =
    let f : Front (to_flush c) item (after (to_flush c) item) =
    front_item (to_flush c) item (record { is_due = is.is_due; is_whole = is.is_whole }) (ap first_of (faults_same c c.due item e) ∙ free) in
    subst (λ (x : StreamProgress). Front (to_flush c) item x) (after_item_same c c.due item e other) f
step c item true here e paged is free =
    elim (eos_due c.page_size c.due item here) [
      | inl due ↦ step_record c item due here e paged is free
      | inr due ↦ step_sized c item due here e paged is free
    ]

flushed_front : (c : StreamProgress) (items : List (List ℕ)) → c.mode ≡ MainBySection → IsPageSize c.page_size
    → AreFaultless c items → Front (to_flush c) (flushed c items) (to_flush (after_all c items))
flushed_front c [] e paged free = Front-none (to_flush c)
flushed_front c (item ∷ items) e paged free =
    let later = IsLater-front c (after c item) item (front_item c item free.0 free.1) in
    let rest = flushed_front (after c item) items (later.same_mode (ap is_open e) ∙ e) (subst IsPageSize (sym later.same_page_size) paged) free.2 in
    Front-append _ _ _ _ _ (step c item (is_eos c.page_size c.due item) refl e paged free.0 free.1) rest

flush_length : (b : Bool) (item : List ℕ) → length (flush_before b ++ item) ≡ length item + 8 * one_if b
flush_length true item = omega (arith, length-append (be64 (flags_of Flush)) item)
flush_length false item = omega arith

flushed_length : (c : StreamProgress) (items : List (List ℕ)) → length (flushed c items) ≡ length (concat items) + 8 * eos_count c items
flushed_length c [] = refl
flushed_length c (item ∷ items) =
    let b : Bool = is_eos c.page_size c.due item in
    omega (
      arith,
      flush_length b item,
      flushed_length (after c item) items,
      length-append (flush_before b ++ item) (flushed (after c item) items),
      length-append item (concat items),
    )

-- a main stream is no background snapshot
no_snapshot : (c : StreamProgress) → c.mode ≡ MainBySection → (is_machine c.frame && is_single c.mode) ≡ false
no_snapshot c e = ap (λ (m : Mode). is_machine c.frame && is_single m) e ∙ by (is_machine c.frame)
  where
    by : (b : Bool) → (b && false) ≡ false
    by true = refl
    by false = refl

ends_same : (c : StreamProgress) (rest : List ℕ) (s : StreamState) → c.mode ≡ MainBySection → Ends c rest s → Ends (to_flush c) rest s
ends_same c rest Reading e h = h
ends_same c rest Closed e h = inl (closed_due c rest (no_snapshot c e) h)
ends_same c rest (Bad f) e h = (
  h.0,
  h.1,
  h.2,
  record { is_due = h.3.is_due; is_whole = h.3.is_whole },
  ap first_of (faults_same c c.due h.0 e) ∙ h.4,
  not_over c.frame c.section c.due h.0,
)
  where
    not_over : (frame : Frame) (kind : Section) (d : Due) (item : List ℕ) → ends_before frame Main kind d item ≡ false
    not_over frame kind d item = false_from_ne_true _ (λ over.
        let at = over_at frame Main kind d item over in
        let clash : false ≡ true = at.in_single in absurd cc)

-- the law: a stream whose EOS ends a round reads as the one with a FLUSH before each EOS
pub sections_are_flushed : SectionsAreFlushed
sections_are_flushed = λ given text reading main paged is.
    let r = is.reads in
    let begin : StreamProgress = from given in
    let items : List (List ℕ) = r.leads.items in
    let e : is.to.mode ≡ MainBySection = (IsLater-front begin is.to r.front r.leads).same_mode (ap is_open main) ∙ main in
    let front : Front (to_flush begin) (flushed begin items) (to_flush is.to) =
    subst (λ (x : StreamProgress). Front (to_flush begin) (flushed begin items) (to_flush x)) (sym r.leads.leads_to)
    (flushed_front begin items main paged r.leads.are_faultless) in
    let reads : Reads (to_flush begin) (flushed begin items ++ is.rest) (to_flush is.to) is.rest reading.state =
    record { front = flushed begin items; has_text = refl; leads = front; ends = ends_same is.to is.rest reading.state e r.ends } in
    record {
      items = items;
      rest = is.rest;
      has_text = r.has_text ∙ ap (λ (x : List ℕ). x ++ is.rest) r.leads.has_bytes;
      is_valid_up_to = record { to = is.to; rest = is.rest; state = reading.state; reads = r; has_length = ap (λ (x : List ℕ). length x) r.leads.has_bytes };
      is_reading = record { to = to_flush is.to; rest = is.rest; reads = reads; has_table = is.has_table; has_rounds = is.has_rounds };
      is_flushed_up_to = record { to = to_flush is.to; rest = is.rest; state = reading.state; reads = reads; has_length = flushed_length begin items };
    }
