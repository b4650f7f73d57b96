-- A stream that a limit doesn't refuse is read as without it.
use Rattle.std.proofs.Common.{◌≡◌, ◌≢◌, ◌%◌, ◌/◌, eqb, ℕ, Bool, true, false, cond, List, [], ◌∷◌, Option, Some, None, refl, sym, ap, subst, ◌∙◌, inl, inr}
use Rattle.std.specs.Prelude.{not, is_none, slice_index}
use Rattle.mig_mem.specs.First.{first_of}
use Rattle.mig_stream.specs.declared.item.Mode.{Mode}
use Rattle.mig_stream.specs.declared.item.Mode.TheVariants.{Single, Main, MainBySection, MainAsShown}
use Rattle.mig_stream.specs.declared.item.Filling.TheVariants.{Zero, Normal}
use Rattle.mig_stream.specs.declared.item.Due.{Due}
use Rattle.mig_stream.specs.declared.item.Due.TheVariants.{FileHeader, TypeByte, ConfigLength, ConfigName, StartHead, SectionHead, RecordHead, ListEntry}
use Rattle.mig_stream.specs.declared.item.Due.TheVariants.{PageSize, BlockName, Content, Footer, Passed, Nothing}
use Rattle.mig_stream.specs.declared.item.RecordKind.{RecordKind}
use Rattle.mig_stream.specs.declared.item.RecordKind.TheVariants.{SizeList, Named, Continued, EndOfSection, Flush}
use Rattle.mig_stream.specs.declared.item.StreamState.{StreamState}
use Rattle.mig_stream.specs.declared.item.StreamState.TheVariants.{Reading, Closed, Bad}
use Rattle.mig_stream.specs.declared.fault.StreamFault.{StreamFault}
use Rattle.mig_stream.specs.declared.fault.StreamFault.TheVariants.{Waiting, SizePlace, NoBlock, OffsetOut}
use Rattle.mig_stream.specs.Fields.{be64_at}
use Rattle.mig_stream.specs.Progress.{StreamProgress}
use Rattle.mig_stream.specs.Items.{is_page_size, has_page, is_passed, is_full, record_kind, kind_faults, head_faults, record_faults, faults, after_type}
use Rattle.mig_stream.specs.Items.{after_kind, after_head, after_record, after_item, after, eos_room, end_records}
use Rattle.mig_stream.specs.Reading.{AreFaultless, after_all, Front, Ends}
use Rattle.mig_stream.specs.Flushed.{from}
use Rattle.mig_stream.specs.Limited.{LimitOnlyRefuses}

-- the same progress, without a limit
abbrev pub freed : StreamProgress → StreamProgress
freed c = record c { waiting = None; room = None }

-- of two, one is chosen
freed_cond : (b : Bool) (x y u v : StreamProgress) → x ≡ freed u → y ≡ freed v → cond b x y ≡ freed (cond b u v)
freed_cond true x y u v e f = e
freed_cond false x y u v e f = f

-- ---- an item leads to the same place

freed_type : (c : StreamProgress) (byte : ℕ) → after_type (freed c) byte ≡ freed (after_type c byte)
freed_type c byte =
    freed_cond (eqb byte 7) _ _ _ _ refl (freed_cond (eqb byte 1) _ _ _ _ refl
    (freed_cond (eqb byte 2) _ _ _ _ refl (freed_cond (eqb byte 3) _ _ _ _ refl refl)))

eos_none : (m : Mode) → eos_room m None None ≡ None
eos_none Single = refl
eos_none Main = refl
eos_none MainBySection = refl
eos_none MainAsShown = refl

freed_kind : (c : StreamProgress) (kind : RecordKind) (page : ℕ) → after_kind (freed c) kind page ≡ freed (after_kind c kind page)
freed_kind c SizeList page = refl
freed_kind c (Named filling) page = refl
freed_kind c (Continued filling) page = refl
freed_kind c EndOfSection page = ap (λ (room : Option ℕ). record (end_records (freed c)) { room = room }) (eos_none c.mode)
freed_kind c Flush page = refl

freed_head : (c : StreamProgress) (kind : Option RecordKind) (page : ℕ) → after_head (freed c) kind page ≡ freed (after_head c kind page)
freed_head c None page = refl
freed_head c (Some kind) page = freed_kind c kind page

freed_record : (c : StreamProgress) (item : List ℕ) → after_record (freed c) item ≡ freed (after_record c item)
freed_record c item = freed_head c (record_kind (be64_at 0 item % c.page_size)) (be64_at 0 item / c.page_size)

-- an item changes the progress without a limit as it does with one
pub freed_item : (c : StreamProgress) (d : Due) (item : List ℕ) → after_item (freed c) d item ≡ freed (after_item c d item)
freed_item c FileHeader item = refl
freed_item c (TypeByte b) item = freed_cond (is_passed c.frame c.section b (slice_index item 0)) _ _ _ _ refl (freed_type c (slice_index item 0))
freed_item c ConfigLength item = refl
freed_item c (ConfigName n) item = refl
freed_item c StartHead item = refl
freed_item c SectionHead item = refl
freed_item c RecordHead item = freed_record c item
freed_item c ListEntry item = refl
freed_item c (PageSize true) item = freed_cond (is_page_size item) _ _ _ _ refl (freed_record c item)
freed_item c (PageSize false) item = freed_cond (is_page_size item) _ _ _ _ refl refl
freed_item c (BlockName filling page) item = refl
freed_item c (Content Zero place) item = refl
freed_item c (Content Normal place) item = refl
freed_item c Footer item = refl
freed_item c (Passed p) item = refl
freed_item c Nothing item = refl

-- ---- and has the same faults but that of the limit

-- the limit's test is the second one
freed_second : (a b : Bool) (more : List (Bool × StreamFault)) (o : Option StreamFault) → first_of ((a, SizePlace) ∷ (b, Waiting) ∷ more) ≡ o → o ≢ Some Waiting
    → first_of ((a, SizePlace) ∷ (false, Waiting) ∷ more) ≡ o
freed_second true b more o e other = e
freed_second false true more o e other = absurd (other (sym e))
freed_second false false more o e other = e

freed_kind_faults : (c : StreamProgress) (kind : RecordKind) (page : ℕ) (o : Option StreamFault)
    → first_of (kind_faults c kind page) ≡ o → o ≢ Some Waiting → first_of (kind_faults (freed c) kind page) ≡ o
freed_kind_faults c SizeList page o e other = e
freed_kind_faults c (Named filling) page o e other = freed_second (is_none c.left) (is_full c.room) [] o e other
freed_kind_faults c (Continued filling) page o e other =
    freed_second (is_none c.left) (is_full c.room) ((is_none c.named, NoBlock) ∷ (not (has_page c.blocks c.named page), OffsetOut) ∷ []) o e other
freed_kind_faults c EndOfSection page o e other = e
freed_kind_faults c Flush page o e other = e

freed_head_faults : (c : StreamProgress) (flags : ℕ) (kind : Option RecordKind) (page : ℕ) (o : Option StreamFault)
    → first_of (head_faults c flags kind page) ≡ o → o ≢ Some Waiting
    → first_of (head_faults (freed c) flags kind page) ≡ o
freed_head_faults c flags None page o e other = e
freed_head_faults c flags (Some kind) page o e other = freed_kind_faults c kind page o e other

freed_record_faults : (c : StreamProgress) (item : List ℕ) (o : Option StreamFault) → first_of (record_faults c item) ≡ o
    → o ≢ Some Waiting → first_of (record_faults (freed c) item) ≡ o
freed_record_faults c item o e other =
    freed_head_faults c (be64_at 0 item % c.page_size) (record_kind (be64_at 0 item % c.page_size)) (be64_at 0 item / c.page_size) o e other

-- where the page size of a block may be
freed_sized : (b : Bool) (c : StreamProgress) (item : List ℕ) (o : Option StreamFault) → first_of (cond b [] (record_faults c item)) ≡ o → o ≢ Some Waiting
    → first_of (cond b [] (record_faults (freed c) item)) ≡ o
freed_sized true c item o e other = e
freed_sized false c item o e other = freed_record_faults c item o e other

-- a fault that isn't the limit's is there without the limit too
pub freed_faults : (c : StreamProgress) (d : Due) (item : List ℕ) (o : Option StreamFault) → first_of (faults c d item) ≡ o
    → o ≢ Some Waiting → first_of (faults (freed c) d item) ≡ o
freed_faults c FileHeader item o e other = e
freed_faults c (TypeByte b) item o e other = e
freed_faults c ConfigLength item o e other = e
freed_faults c (ConfigName n) item o e other = e
freed_faults c StartHead item o e other = e
freed_faults c SectionHead item o e other = e
freed_faults c RecordHead item o e other = freed_record_faults c item o e other
freed_faults c ListEntry item o e other = e
freed_faults c (PageSize true) item o e other = freed_sized (is_page_size item) c item o e other
freed_faults c (PageSize false) item o e other = e
freed_faults c (BlockName filling page) item o e other = e
freed_faults c (Content Zero place) item o e other = e
freed_faults c (Content Normal place) item o e other = e
freed_faults c Footer item o e other = e
freed_faults c (Passed p) item o e other = e
freed_faults c Nothing item o e other = e

-- ---- items and fronts

-- items change the progress without a limit as they do with one
pub freed_all : (c : StreamProgress) (items : List (List ℕ)) → after_all (freed c) items ≡ freed (after_all c items)
freed_all c [] = refl
freed_all c (item ∷ items) = ap (λ (x : StreamProgress). after_all x items) (freed_item c c.due item) ∙ freed_all (after c item) items

freed_faultless : (c : StreamProgress) (items : List (List ℕ)) → AreFaultless c items → AreFaultless (freed c) items
freed_faultless c [] free = tt
freed_faultless c (item ∷ items) free = (
  record { is_due = free.0.is_due; is_whole = free.0.is_whole },
  freed_faults c c.due item None free.1 (λ o. absurd cc),
  subst (λ (x : StreamProgress). AreFaultless x items) (sym (freed_item c c.due item)) (freed_faultless (after c item) items free.2),
)

-- a front that is read within a limit is read without one
pub freed_front : (c d : StreamProgress) (bytes : List ℕ) → Front c bytes d → Front (freed c) bytes (freed d)
freed_front c d bytes f = record {
  items = f.items;
  has_bytes = f.has_bytes;
  are_faultless = freed_faultless c f.items f.are_faultless;
  leads_to = ap freed f.leads_to ∙ sym (freed_all c f.items);
}

freed_ends : (c : StreamProgress) (rest : List ℕ) (s : StreamState) → s ≢ Bad Waiting → Ends c rest s → Ends (freed c) rest s
freed_ends c rest Closed other (inl e) = inl e
freed_ends c rest Closed other (inr e) = inr (e.0, e.1, e.2, record { is_due = e.3.is_due; is_whole = e.3.is_whole }, e.4)
freed_ends c rest Reading other e = (e.0, λ item more is whole. e.1 item more is (record { is_due = whole.is_due; is_whole = whole.is_whole }))
freed_ends c rest (Bad f) other e = (
  e.0,
  e.1,
  e.2,
  record { is_due = e.3.is_due; is_whole = e.3.is_whole },
  freed_faults c c.due e.0 (Some f) e.4 (λ o. other (let same : f ≡ Waiting = cc in ap (λ (g : StreamFault). Bad g) same)),
  e.5,
)

-- a reading without the limit's fault is the one without a limit
pub only_law : LimitOnlyRefuses
only_law given text reading is other = record {
  to = freed is.to;
  rest = is.rest;
  reads = record {
    front = is.reads.front;
    has_text = is.reads.has_text;
    leads = freed_front (from given) is.to is.reads.front is.reads.leads;
    ends = freed_ends is.to is.rest reading.state other is.reads.ends;
  };
  has_table = is.has_table;
  has_rounds = is.has_rounds;
}
