-- The places of the page records that are read: the table has them.
use Rattle.std.proofs.Common.{◌≡◌, eqb, ℕ, Bool, ◌-◌, ◌<◌, false, not, nat_lt, ◌==◌, List, [], ◌∷◌, ◌++◌, length, get_or, Option, Some, None, All, sym, ap}
use Rattle.std.proofs.Common.{subst, inl, inr, arith, true}
use Rattle.std.specs.Prelude.{is_none, slice_index, ⊤}
use Rattle.std.specs.Option.{unwrap_or}
use Rattle.std.proofs.lemmas.List.{length-append, get_or_append_left, get_or_past}
use Rattle.std.proofs.lemmas.List.Elements.{All-nil, All-push}
use Rattle.std.proofs.lemmas.Bool.{cond_both, cases_lt, ltb-true, not-false}
use Rattle.mig_mem.specs.declared.place.Place.{Place}
use Rattle.mig_mem.specs.Place.{IsPlace, place_at}
use Rattle.mig_mem.specs.RamTable.{Block, RamTable, block, block_of}
use Rattle.mig_stream.specs.declared.item.Frame.{Frame}
use Rattle.mig_stream.specs.declared.item.Mode.{Mode}
use Rattle.mig_stream.specs.declared.item.Section.{Section}
use Rattle.mig_stream.specs.declared.item.Mode.TheVariants.{Single, Main, MainBySection, MainAsShown}
use Rattle.mig_stream.specs.declared.item.Filling.TheVariants.{Zero, Normal}
use Rattle.mig_stream.specs.declared.item.Before.{Before}
use Rattle.mig_stream.specs.declared.item.PassedItem.{PassedItem}
use Rattle.mig_stream.specs.declared.item.PassedItem.TheVariants.{Command, SubsectionHead, SubsectionBody, Capability, Address, Early}
use Rattle.mig_stream.specs.declared.item.EarlyPart.TheVariants as early
use Rattle.mig_stream.specs.declared.item.Subsection.{Subsection}
use Rattle.mig_stream.specs.declared.item.Subsection.TheVariants.{PageBits, Uuid, Capabilities}
use Rattle.mig_stream.specs.declared.item.EntryForm.{EntryForm}
use Rattle.mig_stream.specs.declared.item.EntryForm.TheVariants.{Plain, Addressed, Sized}
use Rattle.mig_stream.specs.declared.item.Due.{Due}
use Rattle.mig_stream.specs.declared.item.Due.TheVariants.{FileHeader, TypeByte, ConfigLength, ConfigName, StartHead, SectionHead, RecordHead, ListEntry}
use Rattle.mig_stream.specs.declared.item.Due.TheVariants.{PageSize, BlockName, Content, Footer, Passed, Nothing}
use Rattle.mig_stream.specs.declared.item.RecordKind.{RecordKind}
use Rattle.mig_stream.specs.declared.item.RecordKind.TheVariants.{SizeList, Named, Continued, EndOfSection, Flush}
use Rattle.mig_stream.specs.declared.fault.StreamFault.{StreamFault}
use Rattle.mig_stream.specs.declared.fault.StreamFault.TheVariants as fault
use Rattle.mig_stream.specs.Fields.{be32_at}
use Rattle.mig_stream.specs.PageRecord.{PageRecord}
use Rattle.mig_stream.specs.Progress.{StreamProgress, start}
use Rattle.mig_mem.specs.First.{first_of}
use Rattle.mig_stream.specs.Items.{is_passed, closes, subsection_of, body_of, capabilities_due, entry_due, behind_passed, after_footer, after_type_byte, id_in}
use Rattle.mig_stream.specs.Items.{length_in, is_page_size, has_page, is_full, kind_faults, head_faults, record_faults, faults, after_type, after_kind}
use Rattle.mig_stream.specs.Items.{after_head, after_entry, open_records, whole_rounds, after_item, after, eos_records, eos_rounds, is_start, has_none}
use Rattle.mig_stream.specs.Items.{flush_ends, flush_rounds}
use Rattle.mig_stream.specs.Reading.{AreFaultless, after_all, Front}
use Rattle.mig_stream.proofs.Steps.{passed, not_size}

-- these blocks have the page
record HasPage (blocks : List Block) (p : Place) : Type 0 where
  has_block : p.block < length blocks
  has_page : p.page < (block blocks p.block).pages

more_blocks : (blocks more : List Block) (p : Place) → HasPage blocks p → HasPage (blocks ++ more) p
more_blocks blocks more p h =
    let none : Block = record { id = []; pages = 0 } in
    let same : block (blocks ++ more) p.block ≡ block blocks p.block = get_or_append_left blocks more none p.block h.has_block in
    record {
      has_block = omega (arith, h.has_block, length-append blocks more);
      has_page = omega (arith, h.has_page, ap (λ (b : Block). b.pages) same);
    }

-- a page that was judged to be there
judged : (blocks : List Block) (named : Option ℕ) (page : ℕ) → not (has_page blocks named page) ≡ false → HasPage blocks (place_at (unwrap_or named 0) page)
judged blocks None page e = absurd cc
judged blocks (Some b) page e =
    let none : Block = record { id = []; pages = 0 } in
    let lt : page < (block blocks b).pages = ltb-true page (block blocks b).pages (not-false (nat_lt page (block blocks b).pages) e) in
    record {
      has_block = elim (cases_lt b (length blocks)) [
        | inl h ↦ h
        | inr le ↦ absurd (omega (arith, lt, ap (λ (x : Block). x.pages) (get_or_past blocks b none le)))
      ];
      has_page = lt;
    }

abbrev AreIn : List Block → List PageRecord → Type 0
AreIn blocks records = All (λ r. HasPage blocks r.place) records

abbrev DueIn : List Block → Due → Type 0
DueIn blocks (Content f place) = HasPage blocks place
DueIn blocks d = ⊤

record Placed (c : StreamProgress) : Type 0 where
  due : DueIn c.blocks c.due
  records : AreIn c.blocks c.records
  rounds : All (AreIn c.blocks) c.rounds

more_in : (blocks more : List Block) (records : List PageRecord) → AreIn blocks records → AreIn (blocks ++ more) records
more_in blocks more records all = λ i d lt. more_blocks blocks more (get_or records i d).place (all i d lt)

placed_type : (c : StreamProgress) (b : ℕ) → Placed c → Placed (after_type c b)
placed_type c b v =
    cond_both (eqb b 7) _ _ Placed (λ _. record { due = tt; records = v.records; rounds = v.rounds }) (λ _.
    cond_both (eqb b 1) _ _ Placed (λ _. record { due = tt; records = v.records; rounds = v.rounds }) (λ _.
    cond_both (eqb b 2) _ _ Placed (λ _. record { due = tt; records = v.records; rounds = v.rounds }) (λ _.
    cond_both (eqb b 3) _ _ Placed (λ _. record { due = tt; records = v.records; rounds = v.rounds }) (λ _.
    record { due = tt; records = v.records; rounds = v.rounds }))))

placed_type_byte : (c : StreamProgress) (before : Before) (b : ℕ) → Placed c → Placed (after_type_byte c before b)
placed_type_byte c before b v = cond_both (is_passed c.frame c.section before b) _ _ Placed
    (λ _. record { due = tt; records = v.records; rounds = v.rounds }) (λ _. placed_type c b v)

-- no page is due after what is passed over, or after a footer
capabilities_in : (blocks : List Block) (others : ℕ) → DueIn blocks (capabilities_due others)
capabilities_in blocks others = cond_both (eqb others 0) _ _ (DueIn blocks) (λ _. tt) (λ _. tt)

body_in : (blocks : List Block) (o : Option Subsection) → DueIn blocks (body_of o)
body_in blocks None = tt
body_in blocks (Some s) = tt

passed_in : (blocks : List Block) (passed : PassedItem) (item : List ℕ) → DueIn blocks (behind_passed passed item)
passed_in blocks (Command before) item = tt
passed_in blocks SubsectionHead item = body_in blocks (subsection_of (id_in item))
passed_in blocks (SubsectionBody PageBits) item = tt
passed_in blocks (SubsectionBody Uuid) item = tt
passed_in blocks (SubsectionBody Capabilities) item = capabilities_in blocks (be32_at 0 item)
passed_in blocks (Capability others) item = capabilities_in blocks others
passed_in blocks (Address true) item = tt
passed_in blocks (Address false) item = tt
passed_in blocks (Early before early.Head) item = tt
passed_in blocks (Early before (early.Numbers id)) item = tt
passed_in blocks (Early before (early.Plugged id others)) item = tt
passed_in blocks (Early before (early.Footer id)) item = tt

entry_in : (blocks : List Block) (form : EntryForm) (last : Bool) → DueIn blocks (entry_due form last)
entry_in blocks Plain true = tt
entry_in blocks Plain false = tt
entry_in blocks Addressed last = tt
entry_in blocks Sized last = tt

footer_in : (blocks : List Block) (frame : Frame) (kind : Section) → DueIn blocks (after_footer frame kind)
footer_in blocks frame kind = cond_both (closes frame kind) _ _ (DueIn blocks) (λ _. tt) (λ _. tt)

eos_in : (m : Mode) (blocks : List Block) (records : List PageRecord) → AreIn blocks records → AreIn blocks (eos_records m records)
eos_in Single blocks records all = all
eos_in Main blocks records all = all
eos_in MainBySection blocks records all = All-nil (λ r. HasPage blocks r.place)
eos_in MainAsShown blocks records all = All-nil (λ r. HasPage blocks r.place)

eos_whole_in : (m : Mode) (blocks : List Block) (rounds : List (List PageRecord)) (records : List PageRecord)
    → All (AreIn blocks) rounds → AreIn blocks records → All (AreIn blocks) (eos_rounds m rounds records)
eos_whole_in Single blocks rounds records all last = all
eos_whole_in Main blocks rounds records all last = all
eos_whole_in MainBySection blocks rounds records all last = All-push (AreIn blocks) rounds records all last
eos_whole_in MainAsShown blocks rounds records all last = All-push (AreIn blocks) rounds records all last

flush_in : (ends : Bool) (blocks : List Block) (rounds : List (List PageRecord)) (records : List PageRecord)
    → All (AreIn blocks) rounds → AreIn blocks records → All (AreIn blocks) (flush_rounds ends rounds records)
flush_in true blocks rounds records all last = All-push (AreIn blocks) rounds records all last
flush_in false blocks rounds records all last = all

placed_kind : (c : StreamProgress) (k : RecordKind) (page : ℕ) → Placed c → DueIn c.blocks c.due
    → first_of (kind_faults c k page) ≡ None → Placed (after_kind c k page)
placed_kind c SizeList page v d free = record { due = tt; records = v.records; rounds = v.rounds }
placed_kind c (Named f) page v d free = record { due = tt; records = v.records; rounds = v.rounds }
placed_kind c (Continued f) page v d free =
    let others : List (Bool × StreamFault) = (is_none c.named, fault.NoBlock) ∷ (not (has_page c.blocks c.named page), fault.OffsetOut) ∷ [] in
    let placed = passed (is_none c.left) fault.SizePlace ((is_full c.room, fault.Waiting) ∷ others) free in
    let one = passed (is_full c.room) fault.Waiting others placed.1 in
    let two = passed (is_none c.named) fault.NoBlock ((not (has_page c.blocks c.named page), fault.OffsetOut) ∷ []) one.1 in
    let three = passed (not (has_page c.blocks c.named page)) fault.OffsetOut [] two.1 in
    record { due = judged c.blocks c.named page three.0; records = v.records; rounds = v.rounds }
placed_kind c EndOfSection page v d free = record {
  due = tt;
  records = eos_in c.mode c.blocks c.records v.records;
  rounds = eos_whole_in c.mode c.blocks c.rounds c.records v.rounds v.records;
}
placed_kind c Flush page v d free = record {
  due = tt;
  records = All-nil (λ r. HasPage c.blocks r.place);
  rounds = flush_in (flush_ends c.mode (is_start c.section) (has_none c.records)) c.blocks c.rounds c.records v.rounds v.records;
}

placed_head : (c : StreamProgress) (flags : ℕ) (k : Option RecordKind) (page : ℕ) → Placed c → DueIn c.blocks c.due
    → first_of (head_faults c flags k page) ≡ None → Placed (after_head c k page)
placed_head c flags None page v d free = v
placed_head c flags (Some k) page v d free = placed_kind c k page v d free

open_in : (m : Mode) (blocks : List Block) (records : List PageRecord) → AreIn blocks records → AreIn blocks (open_records m records)
open_in Single blocks records all = All-nil (λ r. HasPage blocks r.place)
open_in Main blocks records all = all
open_in MainBySection blocks records all = all
open_in MainAsShown blocks records all = all

whole_in : (m : Mode) (blocks : List Block) (rounds : List (List PageRecord)) (records : List PageRecord)
    → All (AreIn blocks) rounds → AreIn blocks records → All (AreIn blocks) (whole_rounds m rounds records)
whole_in Single blocks rounds records all last = All-push (AreIn blocks) rounds records all last
whole_in Main blocks rounds records all last = all
whole_in MainBySection blocks rounds records all last = all
whole_in MainAsShown blocks rounds records all last = all

placed_entry : (c : StreamProgress) (item : List ℕ) → Placed c → Placed (after_entry c item)
placed_entry c item v = record {
  due = entry_in (after_entry c item).blocks c.form (unwrap_or c.left 0 - length_in item == 0);
  records = more_in c.blocks _ c.records v.records;
  rounds = λ i r lt. more_in c.blocks _ (get_or c.rounds i r) (v.rounds i r lt);
}

placed_item : (c : StreamProgress) (d : Due) (item : List ℕ) → Placed c → DueIn c.blocks d → first_of (faults c d item) ≡ None → Placed (after_item c d item)
placed_item c FileHeader item v d free = record { due = tt; records = v.records; rounds = v.rounds }
placed_item c (TypeByte b) item v d free = placed_type_byte c b (slice_index item 0) v
placed_item c ConfigLength item v d free = record {
  due = cond_both (eqb (be32_at 0 item) 0) _ _ (DueIn c.blocks) (λ _. tt)
      (λ _. tt);
  records = v.records;
  rounds = v.rounds;
}
placed_item c (ConfigName n) item v d free = record { due = tt; records = v.records; rounds = v.rounds }
placed_item c StartHead item v d free = record { due = tt; records = v.records; rounds = v.rounds }
placed_item c SectionHead item v d free = record { due = tt; records = v.records; rounds = v.rounds }
placed_item c RecordHead item v d free = placed_head c _ _ _ v v.due free
placed_item c ListEntry item v d free = placed_entry c item v
placed_item c (PageSize true) item v d free =
    cond_both (is_page_size item) _ _ Placed (λ _. record { due = tt; records = v.records; rounds = v.rounds })
    (λ isnt. placed_head c _ _ _ v v.due (not_size (is_page_size item) (record_faults c item) isnt free))
placed_item c (PageSize false) item v d free =
    cond_both (is_page_size item) _ _ Placed (λ _. record { due = tt; records = v.records; rounds = v.rounds }) (λ _. placed_entry c item v)
placed_item c (BlockName f page) item v d free =
    let named : Option ℕ = block_of c.blocks (id_in item) in
    let one = passed (is_none named) fault.UnknownBlock ((not (has_page c.blocks named page), fault.OffsetOut) ∷ []) free in
    let two = passed (not (has_page c.blocks named page)) fault.OffsetOut [] one.1 in
    record { due = judged c.blocks named page two.0; records = v.records; rounds = v.rounds }
placed_item c (Content Zero place) item v d free = record {
  due = tt;
  records = All-push (λ r. HasPage c.blocks r.place) c.records (record { place = place; content = None }) v.records d;
  rounds = v.rounds;
}
placed_item c (Content Normal place) item v d free = record {
  due = tt;
  records = All-push (λ r. HasPage c.blocks r.place) c.records (record { place = place; content = Some item }) v.records d;
  rounds = v.rounds;
}
placed_item c Footer item v d free = record {
  due = footer_in c.blocks c.frame c.section;
  records = open_in c.mode c.blocks c.records v.records;
  rounds = whole_in c.mode c.blocks c.rounds c.records v.rounds v.records;
}
placed_item c (Passed passed) item v d free = record { due = passed_in c.blocks passed item; records = v.records; rounds = v.rounds }
placed_item c Nothing item v d free = v

placed_all : (c : StreamProgress) (items : List (List ℕ)) → Placed c → AreFaultless c items → Placed (after_all c items)
placed_all c [] v free = v
placed_all c (item ∷ items) v free = placed_all (after c item) items (placed_item c c.due item v v.due free.1) free.2

-- Each page record that was read has its page in the blocks that were read by then, and in those
-- after them.
pub placed_so_far : (frame : Frame) (m : Mode)
    (p limit : ℕ) (waiting : Option ℕ) (bytes : List ℕ) (to : StreamProgress) (more : List Block) (table : RamTable)
    → Front (start frame m p limit waiting) bytes to → table.blocks ≡ to.blocks ++ more
    → All (λ rs. All (λ r. IsPlace table r.place) rs) to.rounds × All (λ r. IsPlace table r.place) to.records
placed_so_far frame m p limit waiting bytes to more table f same =
    let first : Placed (start frame m p limit waiting) = record { due = tt; records = All-nil (λ r. HasPage [] r.place); rounds = All-nil (AreIn []) } in
    let last : Placed to = subst Placed (sym f.leads_to) (placed_all (start frame m p limit waiting) f.items first f.are_faultless) in
    let there : (place : Place) → HasPage to.blocks place → IsPlace table place =
    λ place has.
    let h : HasPage table.blocks place = subst (λ (b : List Block). HasPage b place) (sym same) (more_blocks to.blocks more place has) in
    record { has_block = h.has_block; has_page = h.has_page } in (
      (λ i rs lt j r within. there (get_or (get_or to.rounds i rs) j r).place (last.rounds i rs lt j r within)),
      (λ j r within. there (get_or to.records j r).place (last.records j r within)),
    )

-- Each page record of a whole round has its page in the blocks that were read.
pub placed_front : (frame : Frame) (m : Mode)
    (p limit : ℕ) (waiting : Option ℕ) (bytes : List ℕ) (to : StreamProgress) (table : RamTable)
    → Front (start frame m p limit waiting) bytes to → table.blocks ≡ to.blocks → All (λ rs. All (λ r. IsPlace table r.place) rs) to.rounds
placed_front frame m p limit waiting bytes to table f same =
    let first : Placed (start frame m p limit waiting) = record { due = tt; records = All-nil (λ r. HasPage [] r.place); rounds = All-nil (AreIn []) } in
    let last : Placed to = subst Placed (sym f.leads_to) (placed_all (start frame m p limit waiting) f.items first f.are_faultless) in
    λ i rs lt j r within.
    let h : HasPage table.blocks (get_or (get_or to.rounds i rs) j r).place =
    subst (λ (b : List Block). HasPage b (get_or (get_or to.rounds i rs) j r).place) (sym same) (last.rounds i rs lt j r within) in
    record { has_block = h.has_block; has_page = h.has_page }
