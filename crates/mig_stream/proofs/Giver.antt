-- Records that were given, and those that are read after them.
use Rattle.std.proofs.Common.{◌≡◌, ℕ, cond, ◌+◌, ◌-◌, ◌*◌, ◌^◌, ◌<◌, Bool, true, false, not, ◌&&◌, ◌||◌, ◌==◌, All, List, [], ◌∷◌, ◌++◌, length, get_or, Option}
use Rattle.std.proofs.Common.{Some, None, refl, sym, ap, subst, ◌∙◌, append_assoc, arith, ◌≤◌, inl, inr}
use Rattle.std.specs.Prelude.{IfSome, slice_index, IfNone, min}
use Rattle.std.proofs.Math.Nat.{min-eq_left}
use Rattle.std.specs.Bool.{then_some}
use Rattle.std.proofs.lemmas.List.{append-nil, length-append, get_or_at, get_or-append-add}
use Rattle.mig_mem.specs.PageSize.{IsPageSize}
use Rattle.mig_mem.specs.RamTable.{Block, RamTable}
use Rattle.mig_mem.specs.Place.{IsPlace}
use Rattle.mig_mem.specs.First.{first_of}
use Rattle.mig_mem.proofs.PageSizes.{page_size_some}
use Rattle.mig_stream.specs.declared.item.Mode.{Mode}
use Rattle.mig_stream.specs.declared.item.Mode.TheVariants.{Single, Main, MainBySection, MainAsShown}
use Rattle.mig_stream.specs.declared.item.Filling.TheVariants.{Zero, Normal}
use Rattle.mig_stream.specs.declared.item.Due.{Due}
use Rattle.mig_stream.specs.declared.item.Due.TheVariants.{FileHeader, TypeByte, ConfigLength, ConfigName, StartHead, SectionHead, RecordHead, ListEntry}
use Rattle.mig_stream.specs.declared.item.Due.TheVariants.{PageSize, BlockName, Content, Footer, Passed, Nothing}
use Rattle.mig_stream.specs.declared.item.RecordKind.{RecordKind}
use Rattle.mig_stream.specs.declared.item.RecordKind.TheVariants.{SizeList, Named, Continued, EndOfSection, Flush}
use Rattle.mig_stream.specs.declared.item.StreamState.{StreamState}
use Rattle.mig_stream.specs.declared.item.StreamState.TheVariants.{Reading, Closed, Bad}
use Rattle.mig_stream.specs.declared.item.Before.{Before}
use Rattle.mig_stream.specs.declared.fault.StreamFault.{StreamFault}
use Rattle.mig_stream.specs.declared.fault.StreamFault.TheVariants as fault
use Rattle.mig_stream.specs.Fields.{be32_at}
use Rattle.mig_stream.specs.Format.{end_byte, footer_type}
use Rattle.mig_stream.specs.PageRecord.{PageRecord}
use Rattle.mig_stream.specs.Progress.{StreamProgress, start, is_used_up, table_of, whole_table}
use Rattle.mig_stream.specs.Items.{is_single, is_page_size, less_room, is_allowed, is_passed, closes, passed_by, after_type_byte, kind_faults, head_faults}
use Rattle.mig_stream.specs.Items.{faults, after_type, after_kind, after_head, after_record, after_entry, end_round, open_records, whole_rounds, end_section}
use Rattle.mig_stream.specs.Items.{after_item, after, eos_records, eos_rounds, end_records, is_start, has_none, flush_mode, flush_ends, flush_rounds}
use Rattle.mig_stream.specs.Items.{flush_records}
use Rattle.mig_stream.specs.Later.{is_open}
use Rattle.mig_stream.specs.Reading.{Settings, AreFaultless, after_all, Front, Ends, Reads, StreamReading, IsReading}
use Rattle.mig_stream.specs.Taking.{HasTakenTo}
use Rattle.mig_stream.specs.Reader.{with_taken, IsUnfinished, HasTable}
use Rattle.mig_stream.specs.Giving.{Giver, GivenSoFar, none_given, with_more, with_last, rounds_behind, records_behind, with_open, all_read, Gives, GiverTells}
use Rattle.mig_stream.specs.Giving.{HasReading, Paused, giver_at, PausesAt, IsUnread}
use Rattle.mig_stream.proofs.Between.{closed_is_empty}
use Rattle.mig_stream.proofs.Exists.{read_on}
use Rattle.mig_stream.proofs.Fronts.{Front-none, Front-append, work}
use Rattle.mig_stream.proofs.Feeding.{front_item, unfinished, reads_short}
use Rattle.mig_stream.proofs.Later.{choice, Front-taken, Ends-taken}
use Rattle.mig_stream.proofs.Limits.{few_front, none_first}
use Rattle.mig_stream.proofs.Placing.{placed_so_far}
use Rattle.mig_stream.proofs.Steps.{IsLater-front}
use Rattle.mig_stream.proofs.Unique.{one_reading}

-- ---- records before those of the open section change nothing

kind_faults-open : (b : List PageRecord) (c : StreamProgress) (k : RecordKind) (page : ℕ) → kind_faults (with_open b c) k page ≡ kind_faults c k page
kind_faults-open b c SizeList page = refl
kind_faults-open b c (Named f) page = refl
kind_faults-open b c (Continued f) page = refl
kind_faults-open b c EndOfSection page = refl
kind_faults-open b c Flush page = refl

head_faults-open : (b : List PageRecord) (c : StreamProgress) (flags : ℕ) (k : Option RecordKind) (page : ℕ)
    → head_faults (with_open b c) flags k page ≡ head_faults c flags k page
head_faults-open b c flags None page = refl
head_faults-open b c flags (Some k) page = kind_faults-open b c k page

-- a single stream may end whatever its records are
no_tail : (is_end : Bool) (m : Mode) (x y : Bool) → m ≡ Single → (is_end && not (is_single m) && x) ≡ (is_end && not (is_single m) && y)
no_tail true Single x y single = refl
no_tail true Main x y single = absurd cc
no_tail true MainBySection x y single = absurd cc
no_tail true MainAsShown x y single = absurd cc
no_tail false m x y single = refl

type_faults-open : (b : List PageRecord) (c : StreamProgress) (before : Before) (item : List ℕ) → c.mode ≡ Single
    → faults (with_open b c) (TypeByte before) item ≡ faults c (TypeByte before) item
type_faults-open b c before item single =
    ap (λ (t : Bool). (not (is_allowed before (slice_index item 0) || is_passed c.frame c.section before (slice_index item 0)), fault.SectionType)
    ∷ (t, fault.Tail) ∷ [])
    (no_tail (slice_index item 0 == end_byte) c.mode (not (length (with_open b c).records == 0)) (not (length c.records == 0)) single)

footer_faults-open : (b : List PageRecord) (c : StreamProgress) (item : List ℕ) → c.mode ≡ Single → faults (with_open b c) Footer item ≡ faults c Footer item
footer_faults-open b c item single =
    ap (λ (t : Bool). (not (slice_index item 0 == footer_type && be32_at 1 item == c.section_id), fault.Footer) ∷ (t, fault.Tail) ∷ [])
    (no_tail (closes c.frame c.section) c.mode (not (length (with_open b c).records == 0)) (not (length c.records == 0)) single)

faults-open : (b : List PageRecord) (c : StreamProgress) (d : Due) (item : List ℕ) → c.mode ≡ Single → faults (with_open b c) d item ≡ faults c d item
faults-open b c FileHeader item single = refl
faults-open b c (TypeByte before) item single = type_faults-open b c before item single
faults-open b c ConfigLength item single = refl
faults-open b c (ConfigName n) item single = refl
faults-open b c StartHead item single = refl
faults-open b c SectionHead item single = refl
faults-open b c RecordHead item single = head_faults-open b c _ _ _
faults-open b c ListEntry item single = refl
faults-open b c (PageSize true) item single = ap (λ (t : List (Bool × StreamFault)). cond (is_page_size item) [] t) (head_faults-open b c _ _ _)
faults-open b c (PageSize false) item single = refl
faults-open b c (BlockName f page) item single = refl
faults-open b c (Content Zero place) item single = refl
faults-open b c (Content Normal place) item single = refl
faults-open b c Footer item single = footer_faults-open b c item single
faults-open b c (Passed passed) item single = refl
faults-open b c Nothing item single = refl

-- ---- and stay before them

rounds_push : (b : List PageRecord) (rounds : List (List PageRecord)) (records : List PageRecord)
    → rounds_behind b rounds ++ records_behind b rounds records ∷ [] ≡ rounds_behind b (rounds ++ records ∷ [])
rounds_push b [] records = refl
rounds_push b (r ∷ rounds) records = refl

records_pushed : (b : List PageRecord) (rounds : List (List PageRecord)) (records : List PageRecord) → [] ≡ records_behind b (rounds ++ records ∷ []) []
records_pushed b [] records = refl
records_pushed b (r ∷ rounds) records = refl

records_more : (b : List PageRecord) (rounds : List (List PageRecord)) (records more : List PageRecord)
    → records_behind b rounds records ++ more ≡ records_behind b rounds (records ++ more)
records_more b [] records more = append_assoc b records more
records_more b (r ∷ rounds) records more = refl

end_round-open : (b : List PageRecord) (c : StreamProgress) → end_round (with_open b c) ≡ with_open b (end_round c)
end_round-open b c =
    ap (λ (x : List PageRecord). record c {
      room = c.waiting;
      records = x;
      rounds = rounds_behind b c.rounds ++ records_behind b c.rounds c.records ∷ [];
    }) (records_pushed b c.rounds c.records)
    ∙ ap (λ (x : List (List PageRecord)). record c {
      room = c.waiting;
      records = records_behind b (c.rounds ++ c.records ∷ []) [];
      rounds = x;
    }) (rounds_push b c.rounds c.records)

eos_records-open : (b : List PageRecord) (m : Mode) (rounds : List (List PageRecord)) (records : List PageRecord)
    → eos_records m (records_behind b rounds records) ≡ records_behind b (eos_rounds m rounds records) (eos_records m records)
eos_records-open b Single rounds records = refl
eos_records-open b Main rounds records = refl
eos_records-open b MainBySection rounds records = records_pushed b rounds records
eos_records-open b MainAsShown rounds records = records_pushed b rounds records

eos_rounds-open : (b : List PageRecord) (m : Mode) (rounds : List (List PageRecord)) (records : List PageRecord)
    → eos_rounds m (rounds_behind b rounds) (records_behind b rounds records) ≡ rounds_behind b (eos_rounds m rounds records)
eos_rounds-open b Single rounds records = refl
eos_rounds-open b Main rounds records = refl
eos_rounds-open b MainBySection rounds records = rounds_push b rounds records
eos_rounds-open b MainAsShown rounds records = rounds_push b rounds records

end_records-open : (b : List PageRecord) (c : StreamProgress) → end_records (with_open b c) ≡ with_open b (end_records c)
end_records-open b c =
    ap (λ (x : List PageRecord). record (end_records c) {
      records = x;
      rounds = eos_rounds c.mode (rounds_behind b c.rounds) (records_behind b c.rounds c.records);
    }) (eos_records-open b c.mode c.rounds c.records)
    ∙ ap (λ (x : List (List PageRecord)). record (end_records c) {
      records = records_behind b
          (eos_rounds c.mode c.rounds c.records) (eos_records c.mode c.records);
      rounds = x;
    }) (eos_rounds-open b c.mode c.rounds c.records)

-- in a single stream, were it allowed there, a FLUSH would end a round
single_flush : (c : StreamProgress) → c.mode ≡ Single → flush_records c ≡ record (end_round c) { due = RecordHead }
single_flush c single =
    let none : Bool = has_none c.records in
    ap (λ (m : Mode). record c {
      mode = flush_mode m (is_start c.section) none;
      due = RecordHead;
      room = c.waiting;
      records = [];
      rounds = flush_rounds (flush_ends m (is_start c.section) none) c.rounds c.records;
    }) single
    ∙ ap (λ (m : Mode). record (end_round c) { mode = m; due = RecordHead }) (sym single)

flush_records-open : (b : List PageRecord) (c : StreamProgress) → c.mode ≡ Single → flush_records (with_open b c) ≡ with_open b (flush_records c)
flush_records-open b c single =
    single_flush (with_open b c) single ∙ ap (λ (x : StreamProgress). record x { due = RecordHead }) (end_round-open b c)
    ∙ ap (with_open b) (sym (single_flush c single))

after_kind-open : (b : List PageRecord) (c : StreamProgress) (k : RecordKind) (page : ℕ) → c.mode ≡ Single
    → after_kind (with_open b c) k page ≡ with_open b (after_kind c k page)
after_kind-open b c SizeList page single = refl
after_kind-open b c (Named f) page single = refl
after_kind-open b c (Continued f) page single = refl
after_kind-open b c EndOfSection page single = end_records-open b c
after_kind-open b c Flush page single = flush_records-open b c single

after_head-open : (b : List PageRecord) (c : StreamProgress) (k : Option RecordKind) (page : ℕ) → c.mode ≡ Single
    → after_head (with_open b c) k page ≡ with_open b (after_head c k page)
after_head-open b c None page single = refl
after_head-open b c (Some k) page single = after_kind-open b c k page single

after_type-open : (b : List PageRecord) (c : StreamProgress) (byte : ℕ) → after_type (with_open b c) byte ≡ with_open b (after_type c byte)
after_type-open b c byte = sym (simp (choice (with_open b)))

after_type_byte-open : (b : List PageRecord) (c : StreamProgress) (before : Before) (byte : ℕ)
    → after_type_byte (with_open b c) before byte ≡ with_open b (after_type_byte c before byte)
after_type_byte-open b c before byte =
    ap (λ (x : StreamProgress). cond (is_passed c.frame c.section before byte)
    (with_open b (record c { due = Passed (passed_by before byte) })) x) (after_type-open b c byte)
    ∙ sym (choice (with_open b) (is_passed c.frame c.section before byte) (record c { due = Passed (passed_by before byte) }) (after_type c byte))

with_record-open : (b : List PageRecord) (c : StreamProgress) (r : PageRecord)
    → record (with_open b c) {
      due = RecordHead;
      room = less_room c.room;
      records = records_behind b c.rounds c.records ++ r ∷ [];
    } ≡ with_open b (record c { due = RecordHead; room = less_room c.room; records = c.records ++ r ∷ [] })
with_record-open b c r = ap (λ (x : List PageRecord). record c {
  due = RecordHead;
  room = less_room c.room;
  records = x;
  rounds = rounds_behind b c.rounds;
}) (records_more b c.rounds c.records (r ∷ []))

footer_records : (b : List PageRecord) (m : Mode) (rounds : List (List PageRecord)) (records : List PageRecord)
    → open_records m (records_behind b rounds records) ≡ records_behind b (whole_rounds m rounds records) (open_records m records)
footer_records b Single rounds records = records_pushed b rounds records
footer_records b Main rounds records = refl
footer_records b MainBySection rounds records = refl
footer_records b MainAsShown rounds records = refl

footer_rounds : (b : List PageRecord) (m : Mode) (rounds : List (List PageRecord)) (records : List PageRecord)
    → whole_rounds m (rounds_behind b rounds) (records_behind b rounds records) ≡ rounds_behind b (whole_rounds m rounds records)
footer_rounds b Single rounds records = rounds_push b rounds records
footer_rounds b Main rounds records = refl
footer_rounds b MainBySection rounds records = refl
footer_rounds b MainAsShown rounds records = refl

end_section-open : (b : List PageRecord) (c : StreamProgress) → end_section (with_open b c) ≡ with_open b (end_section c)
end_section-open b c =
    ap (λ (x : List PageRecord). record (end_section c) {
      records = x;
      rounds = whole_rounds c.mode (rounds_behind b c.rounds) (records_behind b c.rounds c.records);
    }) (footer_records b c.mode c.rounds c.records)
    ∙ ap (λ (x : List (List PageRecord)). record (end_section c) {
      records = records_behind b
          (whole_rounds c.mode c.rounds c.records) (open_records c.mode c.records);
      rounds = x;
    }) (footer_rounds b c.mode c.rounds c.records)

-- in a single stream, records of the open round stand in front of those that an item adds
pub after_item-open : (b : List PageRecord) (c : StreamProgress) (d : Due) (item : List ℕ) → c.mode ≡ Single
    → after_item (with_open b c) d item ≡ with_open b (after_item c d item)
after_item-open b c FileHeader item single = refl
after_item-open b c (TypeByte before) item single = after_type_byte-open b c before (slice_index item 0)
after_item-open b c ConfigLength item single = refl
after_item-open b c (ConfigName n) item single = refl
after_item-open b c StartHead item single = refl
after_item-open b c SectionHead item single = refl
after_item-open b c RecordHead item single = after_head-open b c _ _ single
after_item-open b c ListEntry item single = refl
after_item-open b c (PageSize true) item single =
    ap (λ (x : StreamProgress). cond (is_page_size item) (with_open b (record c { due = RecordHead })) x) (after_head-open b c _ _ single)
    ∙ sym (choice (with_open b) (is_page_size item) (record c { due = RecordHead }) (after_record c item))
after_item-open b c (PageSize false) item single = sym (choice (with_open b) (is_page_size item) (record c { due = ListEntry }) (after_entry c item))
after_item-open b c (BlockName f page) item single = refl
after_item-open b c (Content Zero place) item single = with_record-open b c (record { place = place; content = None })
after_item-open b c (Content Normal place) item single = with_record-open b c (record { place = place; content = Some item })
after_item-open b c Footer item single = end_section-open b c
after_item-open b c (Passed passed) item single = refl
after_item-open b c Nothing item single = refl

-- an item leaves a single stream one
pub single_after : (c : StreamProgress) (item : List ℕ) (items : List (List ℕ)) → c.mode ≡ Single → AreFaultless c (item ∷ items) → (after c item).mode ≡ Single
single_after c item items single free = (IsLater-front c (after c item) item (front_item c item free.0 free.1)).same_mode (ap is_open single) ∙ single

-- in a single stream, items have no fault whatever records the open round had before
pub AreFaultless-open : (b : List PageRecord) (c : StreamProgress) (items : List (List ℕ)) → c.mode ≡ Single
    → AreFaultless c items → AreFaultless (with_open b c) items
AreFaultless-open b c [] single free = tt
AreFaultless-open b c (item ∷ items) single free = (
  record { is_due = free.0.is_due; is_whole = free.0.is_whole },
  ap first_of (faults-open b c c.due item single) ∙ free.1,
  subst (λ (x : StreamProgress). AreFaultless x items) (sym (after_item-open b c c.due item single))
      (AreFaultless-open b (after c item) items (single_after c item items single free) free.2),
)

-- in a single stream, records of the open round stand in front of those that items add
pub after_all-open : (b : List PageRecord) (c : StreamProgress) (items : List (List ℕ)) → c.mode ≡ Single → AreFaultless c items
    → after_all (with_open b c) items ≡ with_open b (after_all c items)
after_all-open b c [] single free = refl
after_all-open b c (item ∷ items) single free =
    ap (λ (x : StreamProgress). after_all x items) (after_item-open b c c.due item single)
    ∙ after_all-open b (after c item) items (single_after c item items single free) free.2

Front-open : (b : List PageRecord) (c d : StreamProgress) (bytes : List ℕ) → c.mode ≡ Single → Front c bytes d → Front (with_open b c) bytes (with_open b d)
Front-open b c d bytes single f = record {
  items = f.items;
  has_bytes = f.has_bytes;
  are_faultless = AreFaultless-open b c f.items single f.are_faultless;
  leads_to = ap (with_open b) f.leads_to ∙ sym (after_all-open b c f.items single f.are_faultless);
}

Ends-open : (b : List PageRecord) (c : StreamProgress) (rest : List ℕ) (s : StreamState) → c.mode ≡ Single → Ends c rest s → Ends (with_open b c) rest s
Ends-open b c rest Reading single e = (e.0, λ item more is whole. e.1 item more is (record { is_due = whole.is_due; is_whole = whole.is_whole }))
Ends-open b c rest Closed single (inl e) = inl e
Ends-open b c rest Closed single (inr e) = inr (e.0, e.1, e.2, record { is_due = e.3.is_due; is_whole = e.3.is_whole }, e.4)
Ends-open b c rest (Bad f) single e = (
  e.0,
  e.1,
  e.2,
  record { is_due = e.3.is_due; is_whole = e.3.is_whole },
  ap first_of (faults-open b c c.due e.0 single) ∙ e.4,
  e.5,
)

-- ---- reading on

-- it is a single stream that is read
pub reads_single : (given : Settings) (text : List ℕ) (so_far : GivenSoFar) (r : Giver) → Gives given text so_far r → r.progress.mode ≡ Single
reads_single given text so_far r g =
    (IsLater-front (start given.frame given.mode given.page_size given.limit given.waiting)
    (all_read so_far r.progress) g.front g.leads).same_mode (ap is_open g.is_single) ∙ g.is_single

-- a reader has the page size of its settings
pub same_page_size : (given : Settings) (text : List ℕ) (so_far : GivenSoFar) (r : Giver) → Gives given text so_far r → r.progress.page_size ≡ given.page_size
same_page_size given text so_far r g = (IsLater-front (start given.frame given.mode given.page_size given.limit given.waiting)
    (all_read so_far r.progress) g.front g.leads).same_page_size

-- a reader of complete bytes stands before the first of them
pub gives_first : (given : Settings) (text : List ℕ) (r : Giver) → given.mode ≡ Single → IsPageSize given.page_size
    → r.progress ≡ start given.frame given.mode given.page_size given.limit given.waiting → r.rest ≡ text → r.found ≡ None
    → r.fed ≡ length text → Gives given text none_given r
gives_first given text r single size progress rest found fed = record {
  is_single = single;
  is_page_size = size;
  front = [];
  has_text = sym rest;
  leads = subst (λ (c : StreamProgress). Front (start given.frame given.mode given.page_size given.limit given.waiting) []
      (all_read none_given c)) (sym progress) (Front-none (start given.frame given.mode given.page_size given.limit given.waiting));
  ends = subst (λ (o : Option StreamState). IfSome o (λ s. Ends (all_read none_given r.progress) r.rest s)) (sym found) tt;
  has_fed = λ _. fed;
}

ends_each : (b : List PageRecord) (g : List (List PageRecord)) (c : StreamProgress) (rest : List ℕ) (o : Option StreamState)
    → c.mode ≡ Single → IfSome o (λ s. Ends c rest s)
    → IfSome o (λ s. Ends (with_taken g (with_open b c)) rest s)
ends_each b g c rest None single e = tt
ends_each b g c rest (Some s) single e = Ends-taken g (with_open b c) rest s (Ends-open b c rest s single e)

-- items that are taken stay to be given
pub reads_behind : (given : Settings) (text : List ℕ) (so_far : GivenSoFar) (old new : Giver)
    → HasTakenTo old.progress old.rest new.rest new.progress → IfSome new.found (λ s. Ends new.progress new.rest s)
    → new.fed ≡ old.fed → Gives given text so_far old → Gives given text so_far new
reads_behind given text so_far old new taken ends fed g =
    let single = reads_single given text so_far old g in
    let there = (IsLater-front old.progress new.progress taken.0 taken.2).same_mode (ap is_open single) ∙ single in
    let o : StreamProgress = with_open so_far.open_section old.progress in
    let n : StreamProgress = with_open so_far.open_section new.progress in record {
      is_single = g.is_single;
      is_page_size = g.is_page_size;
      front = g.front ++ taken.0;
      has_text = g.has_text ∙ ap (λ (x : List ℕ). g.front ++ x) taken.1 ∙ sym (append_assoc g.front taken.0 new.rest);
      leads = Front-append (start given.frame given.mode given.page_size given.limit given.waiting) (all_read so_far old.progress)
          (all_read so_far new.progress) g.front taken.0 g.leads
          (Front-taken so_far.sections o n taken.0 (Front-open so_far.open_section old.progress new.progress taken.0 single taken.2));
      ends = ends_each so_far.open_section so_far.sections new.progress new.rest new.found there ends;
      has_fed = λ few. fed ∙ g.has_fed few;
    }

-- ---- giving

none_open : (c : StreamProgress) → with_open [] c ≡ c
none_open c = ap (λ (x : List PageRecord). record c { records = x; rounds = rounds_behind [] c.rounds })
    (same_records c.rounds c.records) ∙ ap (λ (x : List (List PageRecord)). record c { rounds = x }) (same_rounds c.rounds)
  where
    same_records : (rounds : List (List PageRecord)) (records : List PageRecord) → records_behind [] rounds records ≡ records
    same_records [] records = refl
    same_records (r ∷ rounds) records = refl

    same_rounds : (rounds : List (List PageRecord)) → rounds_behind [] rounds ≡ rounds
    same_rounds [] = refl
    same_rounds (r ∷ rounds) = refl

-- the first whole round that waits is the end of the open section
pub all_last : (so_far : GivenSoFar) (old new : StreamProgress) (records : List PageRecord) → old ≡ with_taken (records ∷ []) new
    → all_read so_far old ≡ all_read (with_last records so_far) new
all_last so_far old new records is =
    let q : List (List PageRecord) = so_far.sections in
    let whole : List PageRecord = so_far.open_section ++ records in
    ap (all_read so_far) is
    ∙ ap (λ (x : List (List PageRecord)). record new { rounds = x }) (sym (append_assoc q (whole ∷ []) new.rounds))
    ∙ ap (with_taken (q ++ whole ∷ [])) (sym (none_open new))

-- if none is whole, the records that wait are of the open section
pub all_more : (so_far : GivenSoFar) (old new : StreamProgress) → old.rounds ≡ [] → new ≡ record old { records = [] }
    → all_read so_far old ≡ all_read (with_more old.records so_far) new
all_more so_far old new none is =
    let q : List (List PageRecord) = so_far.sections in
    let b : List PageRecord = so_far.open_section in
    let here : all_read so_far old ≡ record old { records = b ++ old.records; rounds = q ++ [] } =
    ap (λ (x : List (List PageRecord)). record old { records = records_behind b x old.records; rounds = q ++ rounds_behind b x }) none in
    let there : all_read (with_more old.records so_far) (record old { records = [] }) ≡ record old { records = (b ++ old.records) ++ []; rounds = q ++ [] } =
    ap (λ (x : List (List PageRecord)). record old {
      records = records_behind (b ++ old.records) x [];
      rounds = q ++ rounds_behind (b ++ old.records) x;
    }) none in
    here ∙ ap (λ (x : List PageRecord). record old { records = x; rounds = q ++ [] }) (sym (append-nil (b ++ old.records)))
    ∙ sym there ∙ ap (all_read (with_more old.records so_far)) (sym is)

-- a reader with the same bytes left, and the same progress in all, has given the same stream
pub gives_same : (given : Settings) (text : List ℕ) (so_far then : GivenSoFar) (old new : Giver)
    → all_read so_far old.progress ≡ all_read then new.progress → new.rest ≡ old.rest → new.found ≡ old.found → new.fed ≡ old.fed
    → Gives given text so_far old → Gives given text then new
gives_same given text so_far then old new same rest found fed g = record {
  is_single = g.is_single;
  is_page_size = g.is_page_size;
  front = g.front;
  has_text = g.has_text ∙ ap (λ (x : List ℕ). g.front ++ x) (sym rest);
  leads = subst (λ (c : StreamProgress). Front (start given.frame given.mode given.page_size given.limit given.waiting) g.front c) same g.leads;
  ends = subst (λ (o : Option StreamState). IfSome o (λ s. Ends (all_read then new.progress) new.rest s)) (sym found)
      (subst (λ (x : List ℕ). IfSome old.found (λ s. Ends (all_read then new.progress) x s)) (sym rest)
      (subst (λ (c : StreamProgress). IfSome old.found (λ s. Ends c old.rest s)) same g.ends));
  has_fed = λ few. fed ∙ g.has_fed few;
}

-- the last records of a section are given: they leave the reader and join what was given
pub gives_last : (given : Settings) (text : List ℕ) (so_far : GivenSoFar) (old new : Giver) (records : List PageRecord)
    → old.progress ≡ with_taken (records ∷ []) new.progress → new.rest ≡ old.rest → new.found ≡ old.found → new.fed ≡ old.fed
    → Gives given text so_far old → Gives given text (with_last records so_far) new
gives_last given text so_far old new records is rest found fed g =
    gives_same given text so_far (with_last records so_far) old new (all_last so_far old.progress new.progress records is) rest found fed g

-- records of the open section are given: they leave the reader and join what was given
pub gives_more : (given : Settings) (text : List ℕ) (so_far : GivenSoFar) (old new : Giver) (records : List PageRecord)
    → records ≡ old.progress.records → old.progress.rounds ≡ []
    → new.progress ≡ record old.progress { records = [] } → new.rest ≡ old.rest → new.found ≡ old.found → new.fed ≡ old.fed
    → Gives given text so_far old → Gives given text (with_more records so_far) new
gives_more given text so_far old new records are none is rest found fed g =
    gives_same given text so_far (with_more records so_far) old new
    (all_more so_far old.progress new.progress none is ∙ ap (λ (x : List PageRecord). all_read (with_more x so_far) new.progress) (sym are)) rest found fed g

-- ---- what the stream is read as

-- what a reader was made with reads from there
abbrev from : Settings → StreamProgress
from given = start given.frame given.mode given.page_size given.limit given.waiting

-- The reading of the complete stream goes on from here.
record GoesTo (given : Settings) (text : List ℕ) (c : StreamProgress) : Type 0 where
  to : StreamProgress
  rest : List ℕ
  state : StreamState
  more : List ℕ
  leads : Front c more to
  reads : Reads (from given) text to rest state

goes_to : (given : Settings) (text : List ℕ) (so_far : GivenSoFar) (r : Giver) → Gives given text so_far r → GoesTo given text (all_read so_far r.progress)
goes_to given text so_far r g =
    let c : StreamProgress = all_read so_far r.progress in
    let some : 0 < c.page_size = omega (arith, page_size_some given.page_size g.is_page_size, same_page_size given text so_far r g) in
    let on = read_on (1 + (2 * length r.rest + work c.due)) c c r.rest [] r.rest some (omega arith) refl (Front-none c) in
    let q : Reads c r.rest on.0 on.1 on.2 = on.3 in record {
      to = on.0;
      rest = on.1;
      state = on.2;
      more = q.front;
      leads = q.leads;
      reads = record {
        front = g.front ++ q.front;
        has_text = g.has_text ∙ ap (λ (x : List ℕ). g.front ++ x) q.has_text ∙ sym (append_assoc g.front q.front on.1);
        leads = Front-append (from given) c on.0 g.front q.front g.leads q.leads;
        ends = q.ends;
      };
    }

table_there : (b : Bool) (t u : RamTable) → then_some b t ≡ Some u → (b ≡ true) × (t ≡ u)
table_there true t u e = (refl, cc)
table_there false t u e = absurd cc

-- a whole table stays
whole_stays : (c to : StreamProgress) (more : List ℕ) (table : RamTable) → Front c more to → whole_table c ≡ Some table → whole_table to ≡ Some table
whole_stays c to more table f whole =
    let there = table_there (is_used_up c.left) (table_of c) table whole in
    let later = IsLater-front c to more f in
    let same = later.same_table there.0 in
    ap (λ (n : ℕ). then_some (is_used_up to.left) (record { page_size = n; blocks = to.blocks })) later.same_page_size
    ∙ ap (λ (b : List Block). then_some (is_used_up to.left) (record { page_size = c.page_size; blocks = b })) same.1
    ∙ ap (λ (l : Option ℕ). then_some (is_used_up l) (table_of c)) same.0
    ∙ whole

-- The table that a reader returns is that of the complete stream.
table_told : (given : Settings) (text : List ℕ) (so_far : GivenSoFar) (r : Giver) (table : RamTable)
    → whole_table r.progress ≡ Some table → Gives given text so_far r → HasTable given text (Some table)
table_told given text so_far r table whole g =
    let on = goes_to given text so_far r g in
    let reading : StreamReading = record { table = whole_table on.to; rounds = on.to.rounds; state = on.state } in (
      reading,
      record { to = on.to; rest = on.rest; reads = on.reads; has_table = refl; has_rounds = refl },
      sym (whole_stays (all_read so_far r.progress) on.to on.more table on.leads whole),
    )

-- the table that a reader reports is the one of each stream that it may stand for
pub table_each : (r : Giver) (o told : Option RamTable) → told ≡ o → o ≡ whole_table r.progress
    → IfSome told (λ table. GiverTells r (λ given text so_far. HasTable given text (Some table)))
table_each r o None same is = tt
table_each r o (Some table) same is = λ given text so_far g. table_told given text so_far r table (sym (same ∙ is)) g

-- ---- places

abbrev AreIn : RamTable → List PageRecord → Type 0
AreIn table records = All (λ x. IsPlace table x.place) records

-- The stream's table has the place of each record that was read so far.
all_places : (given : Settings) (text : List ℕ) (so_far : GivenSoFar) (r : Giver) (table : RamTable) → Gives given text so_far r
    → HasTable given text (Some table)
    → All (AreIn table) (all_read so_far r.progress).rounds × AreIn table (all_read so_far r.progress).records
all_places given text so_far r table g f =
    let c : StreamProgress = all_read so_far r.progress in
    let on = goes_to given text so_far r g in
    let b : IsReading given text f.0 = f.1 in
    let same = one_reading (from given) text on.to b.to on.rest b.rest on.state f.0.state on.reads b.reads in
    let whole : whole_table on.to ≡ Some table = ap whole_table same.0 ∙ sym (f.2 ∙ b.has_table) in
    let there = table_there (is_used_up on.to.left) (table_of on.to) table whole in
    let later = IsLater-front c on.to on.more on.leads in
    placed_so_far given.frame given.mode given.page_size given.limit given.waiting g.front c later.more_blocks table g.leads
    (ap (λ (t : RamTable). t.blocks) (sym there.1) ∙ later.has_blocks)

-- those of the records after others
last_in : (table : RamTable) (before records : List PageRecord) → AreIn table (before ++ records) → AreIn table records
last_in table before records all k d lt =
    let there : IsPlace table (get_or (before ++ records) (length before + k) d).place =
    all (length before + k) d (omega (arith, lt, length-append before records)) in
    subst (λ (x : PageRecord). IsPlace table x.place) (get_or-append-add before records k d) there

-- the records that end a section lie in the stream's table
pub last_places : (given : Settings) (text : List ℕ) (so_far : GivenSoFar) (old : Giver) (new : StreamProgress) (records : List
    PageRecord) (table : RamTable) → old.progress ≡ with_taken (records ∷ []) new
    → Gives given text so_far old → HasTable given text (Some table) → AreIn table records
last_places given text so_far old new records table is g f =
    let q : List (List PageRecord) = so_far.sections in
    let whole : List PageRecord = so_far.open_section ++ records in
    let rounds : (all_read so_far old.progress).rounds ≡ q ++ whole ∷ new.rounds = ap (λ (x : StreamProgress). (all_read so_far x).rounds) is in
    let all : All (AreIn table) (q ++ whole ∷ new.rounds) =
    subst (λ (x : List (List PageRecord)). All (AreIn table) x) rounds (all_places given text so_far old table g f).0 in
    let there : AreIn table (get_or (q ++ whole ∷ new.rounds) (length q) []) = all (length q) [] (omega (arith, length-append q (whole ∷ new.rounds))) in
    last_in table so_far.open_section records (subst (AreIn table) (get_or_at q whole new.rounds [] (length q) refl) there)

-- the records of the open section lie in the stream's table
pub more_places : (given : Settings) (text : List ℕ) (so_far : GivenSoFar) (old : Giver) (records : List
    PageRecord) (table : RamTable) → records ≡ old.progress.records → old.progress.rounds ≡ []
    → Gives given text so_far old → HasTable given text (Some table) → AreIn table records
more_places given text so_far old records table are none g f =
    let all : (all_read so_far old.progress).records ≡ so_far.open_section ++ records =
    ap (λ (x : List (List PageRecord)). records_behind so_far.open_section x old.progress.records) none
    ∙ ap (λ (x : List PageRecord). so_far.open_section ++ x) (sym are) in
    last_in table so_far.open_section records (subst (AreIn table) all (all_places given text so_far old table g f).1)

-- ---- the end

-- If all was given, and it reads no further, what was given is the reading.
pub ends_so : (given : Settings) (text : List ℕ) (so_far : GivenSoFar) (r : Giver) (found : StreamState) → r.progress.rounds ≡ []
    → r.progress.records ≡ [] → r.found ≡ Some found
    → Gives given text so_far r → HasReading given text so_far found
ends_so given text so_far r found none nothing is g =
    let to : StreamProgress = all_read so_far r.progress in
    let ends : Ends to r.rest found = subst (λ (o : Option StreamState). IfSome o (λ s. Ends to r.rest s)) is g.ends in
    let records : to.records ≡ so_far.open_section =
    ap (λ (x : List (List PageRecord)). records_behind so_far.open_section x r.progress.records) none
    ∙ ap (λ (x : List PageRecord). so_far.open_section ++ x) nothing ∙ append-nil so_far.open_section in
    record {
      reading = record { table = whole_table to; rounds = to.rounds; state = found };
      is_reading = record {
        to = to;
        rest = r.rest;
        reads = record { front = g.front; has_text = g.has_text; leads = g.leads; ends = ends };
        has_table = refl;
        has_rounds = refl;
      };
      has_sections = ap (λ (x : List (List PageRecord)). so_far.sections ++ rounds_behind so_far.open_section x) none ∙ append-nil so_far.sections;
      has_state = refl;
      has_open = records;
      has_none_open = λ closed. sym records ∙ closed_is_empty given.frame given.mode given.page_size given.limit given.waiting
          g.front to r.rest g.is_single g.leads (subst (λ (s : StreamState). Ends to r.rest s) closed ends);
    }

-- ---- between two pieces

-- what is left of a reading that stops short is a part of an item
ends_unfinished : (c : StreamProgress) (rest : List ℕ) → Ends c rest Reading → IsUnfinished c rest
ends_unfinished c rest ends = unfinished c rest c rest (record { front = []; has_text = refl; leads = Front-none c; ends = ends })

-- bytes that are left where a reading ends, behind those that were pending, are unread
pub unread_behind : (c : StreamProgress) (pending rest : List ℕ) (o : Option StreamState) → IfNone o (pending ≡ [])
    → (o ≡ Some Closed → pending ≡ []) → IfSome o (λ s. Ends c (pending ++ rest) s) → IsUnread o c pending rest
unread_behind c pending rest None none closed ends = inl none
unread_behind c pending rest (Some Reading) none closed ends = ends_unfinished c (pending ++ rest) ends
unread_behind c pending rest (Some Closed) none closed ends = closed refl
unread_behind c pending rest (Some (Bad f)) none closed ends = tt

-- a reader in pieces stands before the first byte
pub pauses_first : (given : Settings) (p : Paused) → given.mode ≡ Single → IsPageSize given.page_size
    → p.progress ≡ start given.frame given.mode given.page_size given.limit given.waiting → p.pending ≡ []
    → p.fed ≡ 0 → PausesAt given [] none_given p
pauses_first given p single size progress pending fed =
    let c : StreamProgress = start given.frame given.mode given.page_size given.limit given.waiting in
    record {
      is_single = single;
      is_page_size = size;
      front = [];
      has_text = sym pending;
      leads = subst (λ (x : StreamProgress). Front c [] (all_read none_given x)) (sym progress) (Front-none c);
      ends = subst (λ (x : StreamProgress). Ends (all_read none_given x) p.pending Reading) (sym progress)
          (subst (λ (x : List ℕ). Ends c x Reading) (sym pending) (reads_short c [] (omega arith)).ends);
      has_fed = λ _. fed;
    }

-- a reading that pauses has the table of the bytes that were read
pub paused_table : (given : Settings) (text : List ℕ) (so_far : GivenSoFar) (p : Paused) → PausesAt given text so_far p
    → HasTable given text (whole_table p.progress)
paused_table given text so_far p at =
    let to : StreamProgress = all_read so_far p.progress in (
      record { table = whole_table to; rounds = to.rounds; state = Reading },
      record {
        to = to;
        rest = p.pending;
        reads = record {
          front = at.front;
          has_text = at.has_text;
          leads = at.leads;
          ends = at.ends;
        };
        has_table = refl;
        has_rounds = refl;
      },
      refl,
    )

-- a count that stays below 2^64 is exact
fed_more : (text piece both before now : ℕ) → both ≡ text + piece → both < 2 ^ 64 → (text < 2 ^ 64 → before ≡ text)
    → now ≡ min (before + piece) (2 ^ 64 - 1) → now ≡ both
fed_more text piece both before now sum few was is =
    let here : before ≡ text = was (omega (arith, sum, few)) in
    is ∙ min-eq_left (omega (arith, here, sum, few)) ∙ omega (arith, here, sum)

-- a piece more of the stream
pub resumed : (given : Settings) (text piece : List ℕ) (so_far : GivenSoFar) (p : Paused) (r : Giver) → r.progress ≡ p.progress
    → r.rest ≡ p.pending ++ piece → r.found ≡ None
    → r.fed ≡ min (p.fed + length piece) (2 ^ 64 - 1) → PausesAt given text so_far p → Gives given (text ++ piece) so_far r
resumed given text piece so_far p r progress rest found fed at = record {
  is_single = at.is_single;
  is_page_size = at.is_page_size;
  front = at.front;
  has_text = ap (λ (x : List ℕ). x ++ piece) at.has_text ∙ append_assoc at.front p.pending piece ∙ ap (λ (x : List ℕ). at.front ++ x) (sym rest);
  leads = subst (λ (x : StreamProgress). Front (start given.frame given.mode given.page_size given.limit given.waiting) at.front
      (all_read so_far x)) (sym progress) at.leads;
  ends = subst (λ (o : Option StreamState). IfSome o (λ s. Ends (all_read so_far r.progress) r.rest s)) (sym found) tt;
  has_fed = λ few. fed_more (length text) (length piece) (length (text ++ piece)) p.fed r.fed (length-append text piece) few at.has_fed fed;
}

-- the same at a pause
pub paused : (given : Settings) (text : List ℕ) (so_far : GivenSoFar) (r : Giver) (p : Paused) → r.found ≡ Some Reading
    → p.progress ≡ r.progress → p.pending ≡ r.rest → p.fed ≡ r.fed
    → Gives given text so_far r → PausesAt given text so_far p
paused given text so_far r p found progress rest fed g =
    gives_same given text so_far so_far r (giver_at p) (ap (all_read so_far) (sym progress)) rest (sym found) fed g

-- ---- before the table, and how many sections there are

-- lists that are empty together are both empty
pub none_left : {X : Type 0} (xs ys : List X) → xs ++ ys ≡ [] → (xs ≡ []) × (ys ≡ [])
none_left {X} [] ys e = (refl, e)
none_left {X} (x ∷ xs) ys e = absurd cc

no_rounds : (before : List PageRecord) (rounds : List (List PageRecord)) → rounds_behind before rounds ≡ [] → rounds ≡ []
no_rounds before [] e = refl
no_rounds before (r ∷ rounds) e = absurd cc

-- Before the table nothing was given, and nothing waits.
pub none_before_table : (given : Settings) (text : List ℕ) (so_far : GivenSoFar) (r : Giver) → Gives given text so_far r
    → whole_table r.progress ≡ None → (so_far.sections ≡ []) × (so_far.open_section ≡ [])
none_before_table given text so_far r g none =
    let both = none_first given.frame given.mode given.page_size given.limit given.waiting g.front (all_read so_far r.progress) g.leads none in
    let sections = none_left so_far.sections (rounds_behind so_far.open_section r.progress.rounds) both.0 in
    let rounds : r.progress.rounds ≡ [] = no_rounds so_far.open_section r.progress.rounds sections.1 in
    let records : so_far.open_section ++ r.progress.records ≡ [] =
    ap (λ (x : List (List PageRecord)). records_behind so_far.open_section x r.progress.records) (sym rounds) ∙ both.1 in
    (sections.0, (none_left so_far.open_section r.progress.records records).0)

-- No more sections were given than the stream has bytes.
pub few_sections : (given : Settings) (text : List ℕ) (so_far : GivenSoFar) (r : Giver) → Gives given text so_far r → length so_far.sections ≤ length text
few_sections given text so_far r g =
    omega (
      arith,
      few_front given.frame given.mode given.page_size given.limit given.waiting g.front (all_read so_far r.progress) g.leads,
      length-append so_far.sections (rounds_behind so_far.open_section r.progress.rounds),
      ap (λ (x : List ℕ). length x) g.has_text,
      length-append g.front r.rest,
    )
