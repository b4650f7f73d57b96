-- What items leave as it was, rounds that were taken, and a reading that goes on.
use Rattle.std.proofs.Common.{◌≡◌, ◌≢◌, ℕ, Bool, true, false, cond, List, [], ◌∷◌, ◌++◌, Option, Some, None, refl, sym, ap, subst, ◌∙◌, append_assoc, inl, inr}
use Rattle.std.specs.Prelude.{slice_index}
use Rattle.mig_stream.specs.declared.item.Mode.{Mode}
use Rattle.mig_stream.specs.declared.item.Mode.TheVariants.{Single, Main, MainBySection, MainAsShown}
use Rattle.mig_stream.specs.declared.item.Filling.TheVariants.{Zero, Normal}
use Rattle.mig_stream.specs.declared.item.Before.{Before}
use Rattle.mig_stream.specs.declared.item.Due.{Due}
use Rattle.mig_stream.specs.declared.item.Due.TheVariants.{FileHeader, TypeByte, ConfigLength, ConfigName, StartHead, SectionHead, RecordHead, ListEntry}
use Rattle.mig_stream.specs.declared.item.Due.TheVariants.{PageSize, BlockName, Content, Footer, Passed, Nothing}
use Rattle.mig_stream.specs.declared.item.RecordKind.{RecordKind}
use Rattle.mig_stream.specs.declared.item.RecordKind.TheVariants.{SizeList, Named, Continued, EndOfSection, Flush}
use Rattle.mig_stream.specs.declared.item.StreamState.{StreamState}
use Rattle.mig_stream.specs.declared.item.StreamState.TheVariants.{Reading, Closed, Bad}
use Rattle.mig_stream.specs.declared.fault.StreamFault.{StreamFault}
use Rattle.mig_stream.specs.PageRecord.{PageRecord}
use Rattle.mig_stream.specs.Progress.{StreamProgress}
use Rattle.mig_mem.specs.First.{first_of}
use Rattle.mig_stream.specs.Items.{is_page_size, is_passed, passed_by, after_type_byte, kind_faults, head_faults, faults, after_type, after_kind, after_head}
use Rattle.mig_stream.specs.Items.{after_record, after_entry, is_start, has_none, flush_ends, flush_rounds, flush_records, whole_rounds, end_section}
use Rattle.mig_stream.specs.Items.{after_item, after, eos_rounds, end_records}
use Rattle.mig_stream.specs.Reading.{AreFaultless, after_all, Front, Ends, Reads}
use Rattle.mig_stream.specs.Reader.{with_taken}
use Rattle.mig_stream.proofs.Fronts.{Front-append}

-- ---- rounds that were taken change nothing

kind_faults-taken : (g : List (List PageRecord)) (c : StreamProgress) (k : RecordKind) (page : ℕ) → kind_faults (with_taken g c) k page ≡ kind_faults c k page
kind_faults-taken g c SizeList page = refl
kind_faults-taken g c (Named f) page = refl
kind_faults-taken g c (Continued f) page = refl
kind_faults-taken g c EndOfSection page = refl
kind_faults-taken g c Flush page = refl

head_faults-taken : (g : List (List PageRecord)) (c : StreamProgress) (flags : ℕ) (k : Option RecordKind) (page : ℕ)
    → head_faults (with_taken g c) flags k page ≡ head_faults c flags k page
head_faults-taken g c flags None page = refl
head_faults-taken g c flags (Some k) page = kind_faults-taken g c k page

faults-taken : (g : List (List PageRecord)) (c : StreamProgress) (d : Due) (item : List ℕ) → faults (with_taken g c) d item ≡ faults c d item
faults-taken g c FileHeader item = refl
faults-taken g c (TypeByte b) item = refl
faults-taken g c ConfigLength item = refl
faults-taken g c (ConfigName n) item = refl
faults-taken g c StartHead item = refl
faults-taken g c SectionHead item = refl
faults-taken g c RecordHead item = head_faults-taken g c _ _ _
faults-taken g c ListEntry item = refl
faults-taken g c (PageSize true) item = ap (λ (t : List (Bool × StreamFault)). cond (is_page_size item) [] t) (head_faults-taken g c _ _ _)
faults-taken g c (PageSize false) item = refl
faults-taken g c (BlockName f page) item = refl
faults-taken g c (Content Zero place) item = refl
faults-taken g c (Content Normal place) item = refl
faults-taken g c Footer item = refl
faults-taken g c (Passed passed) item = refl
faults-taken g c Nothing item = refl

flush_rounds-taken : (g : List (List PageRecord)) (ends : Bool) (rounds : List (List PageRecord)) (records : List PageRecord)
    → flush_rounds ends (g ++ rounds) records ≡ g ++ flush_rounds ends rounds records
flush_rounds-taken g true rounds records = append_assoc g rounds (records ∷ [])
flush_rounds-taken g false rounds records = refl

flush_records-taken : (g : List (List PageRecord)) (c : StreamProgress) → flush_records (with_taken g c) ≡ with_taken g (flush_records c)
flush_records-taken g c =
    ap (λ (r : List (List PageRecord)). record (flush_records c) { rounds = r })
    (flush_rounds-taken g (flush_ends c.mode (is_start c.section) (has_none c.records)) c.rounds c.records)

eos_rounds-taken : (g : List (List PageRecord)) (m : Mode) (rounds : List (List PageRecord)) (records : List PageRecord)
    → eos_rounds m (g ++ rounds) records ≡ g ++ eos_rounds m rounds records
eos_rounds-taken g Single rounds records = refl
eos_rounds-taken g Main rounds records = refl
eos_rounds-taken g MainBySection rounds records = append_assoc g rounds (records ∷ [])
eos_rounds-taken g MainAsShown rounds records = append_assoc g rounds (records ∷ [])

after_kind-taken : (g : List (List PageRecord)) (c : StreamProgress) (k : RecordKind) (page : ℕ)
    → after_kind (with_taken g c) k page ≡ with_taken g (after_kind c k page)
after_kind-taken g c SizeList page = refl
after_kind-taken g c (Named f) page = refl
after_kind-taken g c (Continued f) page = refl
after_kind-taken g c EndOfSection page =
    ap (λ (x : List (List PageRecord)). record (end_records c) { rounds = x }) (eos_rounds-taken g c.mode c.rounds c.records)
after_kind-taken g c Flush page = flush_records-taken g c

after_head-taken : (g : List (List PageRecord)) (c : StreamProgress) (k : Option RecordKind) (page : ℕ)
    → after_head (with_taken g c) k page ≡ with_taken g (after_head c k page)
after_head-taken g c None page = refl
after_head-taken g c (Some k) page = after_kind-taken g c k page

-- a test chooses between two, and what is said of it holds of both
pub choice : {A B : Type 0} (f : A → B) (b : Bool) (x y : A) → f (cond b x y) ≡ cond b (f x) (f y)
choice f true x y = refl
choice f false x y = refl

after_type-taken : (g : List (List PageRecord)) (c : StreamProgress) (b : ℕ) → after_type (with_taken g c) b ≡ with_taken g (after_type c b)
after_type-taken g c b = sym (simp (choice (with_taken g)))

after_type_byte-taken : (g : List (List PageRecord)) (c : StreamProgress) (before : Before) (b : ℕ)
    → after_type_byte (with_taken g c) before b ≡ with_taken g (after_type_byte c before b)
after_type_byte-taken g c before b =
    ap (λ (x : StreamProgress). cond (is_passed c.frame c.section before b) (with_taken g (record c { due = Passed (passed_by before b) })) x)
    (after_type-taken g c b)
    ∙ sym (choice (with_taken g) (is_passed c.frame c.section before b) (record c { due = Passed (passed_by before b) }) (after_type c b))

whole_rounds-taken : (g : List (List PageRecord)) (m : Mode) (rounds : List (List PageRecord)) (records : List PageRecord)
    → whole_rounds m (g ++ rounds) records ≡ g ++ whole_rounds m rounds records
whole_rounds-taken g Single rounds records = append_assoc g rounds (records ∷ [])
whole_rounds-taken g Main rounds records = refl
whole_rounds-taken g MainBySection rounds records = refl
whole_rounds-taken g MainAsShown rounds records = refl

-- rounds that were taken change nothing of what an item does
pub after_item-taken : (g : List (List PageRecord)) (c : StreamProgress) (d : Due) (item : List ℕ)
    → after_item (with_taken g c) d item ≡ with_taken g (after_item c d item)
after_item-taken g c FileHeader item = refl
after_item-taken g c (TypeByte b) item = after_type_byte-taken g c b (slice_index item 0)
after_item-taken g c ConfigLength item = refl
after_item-taken g c (ConfigName n) item = refl
after_item-taken g c StartHead item = refl
after_item-taken g c SectionHead item = refl
after_item-taken g c RecordHead item = after_head-taken g c _ _
after_item-taken g c ListEntry item = refl
after_item-taken g c (PageSize true) item =
    ap (λ (x : StreamProgress). cond (is_page_size item) (with_taken g (record c { due = RecordHead })) x) (after_head-taken g c _ _)
    ∙ sym (choice (with_taken g) (is_page_size item) (record c { due = RecordHead }) (after_record c item))
after_item-taken g c (PageSize false) item = sym (choice (with_taken g) (is_page_size item) (record c { due = ListEntry }) (after_entry c item))
after_item-taken g c (BlockName f page) item = refl
after_item-taken g c (Content Zero place) item = refl
after_item-taken g c (Content Normal place) item = refl
after_item-taken g c Footer item = ap (λ (x : List (List PageRecord)). record (end_section c) { rounds = x }) (whole_rounds-taken g c.mode c.rounds c.records)
after_item-taken g c (Passed passed) item = refl
after_item-taken g c Nothing item = refl

-- rounds that were taken change no fault
pub AreFaultless-taken : (g : List (List PageRecord)) (c : StreamProgress) (items : List (List ℕ)) → AreFaultless c items → AreFaultless (with_taken g c) items
AreFaultless-taken g c [] free = tt
AreFaultless-taken g c (item ∷ items) free = (
  record { is_due = free.0.is_due; is_whole = free.0.is_whole },
  ap first_of (faults-taken g c c.due item) ∙ free.1,
  subst (λ (x : StreamProgress). AreFaultless x items) (sym (after_item-taken g c c.due item)) (AreFaultless-taken g (after c item) items free.2),
)

-- rounds that were taken change nothing of what items do
pub after_all-taken : (g : List (List PageRecord)) (c : StreamProgress) (items : List (List ℕ))
    → after_all (with_taken g c) items ≡ with_taken g (after_all c items)
after_all-taken g c [] = refl
after_all-taken g c (item ∷ items) = ap (λ (x : StreamProgress). after_all x items) (after_item-taken g c c.due item) ∙ after_all-taken g (after c item) items

-- rounds that were taken change nothing of a front
pub Front-taken : (g : List (List PageRecord)) (c d : StreamProgress) (bytes : List ℕ) → Front c bytes d → Front (with_taken g c) bytes (with_taken g d)
Front-taken g c d bytes f = record {
  items = f.items;
  has_bytes = f.has_bytes;
  are_faultless = AreFaultless-taken g c f.items f.are_faultless;
  leads_to = ap (with_taken g) f.leads_to ∙ sym (after_all-taken g c f.items);
}

-- rounds that were taken change nothing of how the reading ends
pub Ends-taken : (g : List (List PageRecord)) (c : StreamProgress) (rest : List ℕ) (s : StreamState) → Ends c rest s → Ends (with_taken g c) rest s
Ends-taken g c rest Reading e = e
Ends-taken g c rest Closed (inl e) = inl e
Ends-taken g c rest Closed (inr e) = inr (e.0, e.1, e.2, record { is_due = e.3.is_due; is_whole = e.3.is_whole }, e.4)
Ends-taken g c rest (Bad f) e = (
  e.0,
  e.1,
  e.2,
  record { is_due = e.3.is_due; is_whole = e.3.is_whole },
  ap first_of (faults-taken g c c.due e.0) ∙ e.4,
  e.5,
)

-- ---- a reading goes on

-- what follows the end, or a fault, changes nothing
pub Ends-more : (c : StreamProgress) (rest piece : List ℕ) (s : StreamState) → s ≢ Reading → Ends c rest s → Ends c (rest ++ piece) s
Ends-more c rest piece Reading other e = absurd (other refl)
Ends-more c rest piece Closed other (inl e) = inl e
Ends-more c rest piece Closed other (inr e) = inr (e.0, e.1 ++ piece, ap (λ (x : List ℕ). x ++ piece) e.2 ∙ append_assoc e.0 e.1 piece, e.3, e.4)
Ends-more c rest piece (Bad f) other e = (e.0, e.1 ++ piece, ap (λ (x : List ℕ). x ++ piece) e.2 ∙ append_assoc e.0 e.1 piece, e.3, e.4, e.5)

-- once the reading has ended, more bytes only lengthen the rest
pub Reads-more : (from : StreamProgress) (text : List ℕ) (to : StreamProgress) (rest piece : List ℕ) (s : StreamState)
    → s ≢ Reading → Reads from text to rest s → Reads from (text ++ piece) to (rest ++ piece) s
Reads-more from text to rest piece s other r = record {
  front = r.front;
  has_text = ap (λ (x : List ℕ). x ++ piece) r.has_text ∙ append_assoc r.front rest piece;
  leads = r.leads;
  ends = Ends-more to rest piece s other r.ends;
}

-- what is read after a front, of the bytes that it left and those that come
pub Reads-on : (g : List (List PageRecord)) (from mid to : StreamProgress) (text kept piece rest : List ℕ) (s : StreamState)
    → Reads from text (with_taken g mid) kept Reading → Reads mid (kept ++ piece) to rest s → Reads from (text ++ piece) (with_taken g to) rest s
Reads-on g from mid to text kept piece rest s r q = record {
  front = r.front ++ q.front;
  has_text = ap (λ (x : List ℕ). x ++ piece) r.has_text ∙ append_assoc r.front kept piece
      ∙ ap (λ (x : List ℕ). r.front ++ x) q.has_text ∙ sym (append_assoc r.front q.front rest);
  leads = Front-append from (with_taken g mid) (with_taken g to) r.front q.front r.leads (Front-taken g mid to q.front q.leads);
  ends = Ends-taken g to rest s q.ends;
}
