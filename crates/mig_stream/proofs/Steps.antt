-- What items leave as it was.
use Rattle.std.proofs.Common.{◌≡◌, ◌≢◌, eqb, ℕ, ◌*◌, ◌%◌, ◌≤◌, Bool, true, false, cond, not, nat_lt, nat_le, ◌||◌, ◌==◌, List, [], ◌∷◌, ◌++◌, length, Option}
use Rattle.std.proofs.Common.{Some, None, refl, sym, ap, subst, ◌∙◌, inl, inr, append_assoc, arith}
use Rattle.std.specs.Prelude.{is_some, slice_index}
use Rattle.std.specs.Option.{unwrap_or}
use Rattle.std.proofs.lemmas.List.{append-nil}
use Rattle.std.proofs.lemmas.Bool.{cond_both, ltb-false, eqb-false, eqb-true}
use Rattle.mig_mem.specs.RamTable.{Block, block_of, is_id, max_blocks}
use Rattle.mig_stream.specs.declared.item.Mode.{Mode}
use Rattle.mig_stream.specs.declared.item.Mode.TheVariants.{Single, Main, MainBySection, MainAsShown}
use Rattle.mig_stream.specs.declared.item.Filling.TheVariants.{Zero, Normal}
use Rattle.mig_stream.specs.declared.item.Before.{Before}
use Rattle.mig_stream.specs.declared.item.Due.{Due}
use Rattle.mig_stream.specs.declared.item.Due.TheVariants.{FileHeader, TypeByte, ConfigLength, ConfigName, StartHead, SectionHead, RecordHead, ListEntry}
use Rattle.mig_stream.specs.declared.item.Due.TheVariants.{PageSize, BlockName, Content, Footer, Passed, Nothing}
use Rattle.mig_stream.specs.declared.item.RecordKind.{RecordKind}
use Rattle.mig_stream.specs.declared.item.RecordKind.TheVariants.{SizeList, Named, Continued, EndOfSection, Flush}
use Rattle.mig_stream.specs.declared.fault.StreamFault.{StreamFault}
use Rattle.mig_stream.specs.declared.fault.StreamFault.TheVariants as fault
use Rattle.mig_stream.specs.PageRecord.{PageRecord}
use Rattle.mig_stream.specs.Progress.{StreamProgress, is_used_up}
use Rattle.mig_mem.specs.First.{first_of}
use Rattle.mig_stream.specs.Items.{id_in, length_in, is_page_size, record_faults, entry_faults, is_single, is_start, has_none, flush_mode, flush_ends}
use Rattle.mig_stream.specs.Items.{flush_rounds, flush_records, eos_mode, is_passed, after_type_byte, head_faults, faults, first_fault, after_type, after_kind}
use Rattle.mig_stream.specs.Items.{after_head, open_records, whole_rounds, end_section, after_item, after, eos_records, eos_rounds, end_records}
use Rattle.mig_stream.specs.Reading.{AreFaultless, after_all, Front}
use Rattle.mig_stream.specs.Later.{HasGrown, is_open, IsLater}

-- ---- the lists grow

same_log : (old new : StreamProgress) → new.rounds ≡ old.rounds → new.records ≡ old.records → HasGrown old new
same_log old new e f = inl (e, [], f ∙ sym (append-nil old.records))

grown_record : (old mid : StreamProgress) (r : PageRecord) (new : StreamProgress) → new.rounds ≡ mid.rounds
    → new.records ≡ mid.records ++ r ∷ [] → HasGrown old mid → HasGrown old new
grown_record old mid r new e f (inl h) = inl (e ∙ h.0, h.1 ++ r ∷ [], f ∙ ap (λ (x : List PageRecord). x ++ r ∷ []) h.2 ∙ append_assoc old.records h.1 (r ∷ []))
grown_record old mid r new e f (inr h) = inr (h.0, h.1, e ∙ h.2)

grown_round : (old mid new : StreamProgress) → new.rounds ≡ mid.rounds ++ mid.records ∷ [] → HasGrown old mid → HasGrown old new
grown_round old mid new e (inl h) = inr (
  h.1,
  [],
  e ∙ ap (λ (x : List (List PageRecord)). x ++ mid.records ∷ []) h.0
      ∙ ap (λ (x : List PageRecord). old.rounds ++ x ∷ []) h.2,
)
grown_round old mid new e (inr h) = inr (
  h.0,
  h.1 ++ mid.records ∷ [],
  e
      ∙ ap (λ (x : List (List PageRecord)). x ++ mid.records ∷ []) h.2 ∙ append_assoc old.rounds ((old.records ++ h.0) ∷ h.1) (mid.records ∷ []),
)

grown_same : (old mid new : StreamProgress) → new.rounds ≡ mid.rounds → new.records ≡ mid.records → HasGrown old mid → HasGrown old new
grown_same old mid new e f (inl h) = inl (e ∙ h.0, h.1, f ∙ h.2)
grown_same old mid new e f (inr h) = inr (h.0, h.1, e ∙ h.2)

-- what an item changes of the lists
data Change (old new : StreamProgress) : Type 0 where
  none : new.blocks ≡ old.blocks → new.rounds ≡ old.rounds → new.records ≡ old.records → Change old new
  block : (b : Block) → new.blocks ≡ old.blocks ++ b ∷ [] → new.rounds ≡ old.rounds → new.records ≡ old.records → Change old new
  one : (r : PageRecord) → new.blocks ≡ old.blocks → new.rounds ≡ old.rounds → new.records ≡ old.records ++ r ∷ [] → Change old new
  whole : new.blocks ≡ old.blocks → new.rounds ≡ old.rounds ++ old.records ∷ [] → Change old new

-- A mode that was shown stays, and no stream becomes single or stops being so.
pub record Keeps (old new : Mode) : Type 0 where
  pub single : is_single new ≡ is_single old
  pub settled : is_open old ≡ false → new ≡ old

same : {old new : Mode} → new ≡ old → Keeps old new
same e = record { single = ap is_single e; settled = λ shown. e }

-- an EOS leaves a mode that is fixed as it is
pub eos_keeps : (m : Mode) (in_start : Bool) → Keeps m (eos_mode m in_start)
eos_keeps Single in_start = same refl
eos_keeps Main in_start = same refl
eos_keeps MainBySection in_start = same refl
eos_keeps MainAsShown true = same refl
eos_keeps MainAsShown false = record { single = refl; settled = λ e. absurd cc }

-- a FLUSH leaves a mode that is fixed as it is
pub flush_keeps : (m : Mode) (in_start empty : Bool) → Keeps m (flush_mode m in_start empty)
flush_keeps Single in_start empty = same refl
flush_keeps Main in_start empty = same refl
flush_keeps MainBySection in_start empty = same refl
flush_keeps MainAsShown true empty = record { single = refl; settled = λ e. absurd cc }
flush_keeps MainAsShown false true = record { single = refl; settled = λ e. absurd cc }
flush_keeps MainAsShown false false = record { single = refl; settled = λ e. absurd cc }

record Step (old new : StreamProgress) : Type 0 where
  frame : new.frame ≡ old.frame
  mode : Keeps old.mode new.mode
  page_size : new.page_size ≡ old.page_size
  limit : new.limit ≡ old.limit
  waiting : new.waiting ≡ old.waiting
  change : Change old new

no_change : (c : StreamProgress) → Step c c
no_change c = record { frame = refl; mode = same refl; page_size = refl; limit = refl; waiting = refl; change = none refl refl refl }

type_step : (c : StreamProgress) (b : ℕ) → Step c (after_type c b)
type_step c b =
    cond_both (eqb b 7) _ _ (Step c) (λ _. record {
      frame = refl;
      mode = same refl;
      page_size = refl;
      limit = refl;
      waiting = refl;
      change = none refl refl refl;
    }) (λ _.
    cond_both (eqb b 1) _ _ (Step c) (λ _. record {
      frame = refl;
      mode = same refl;
      page_size = refl;
      limit = refl;
      waiting = refl;
      change = none refl refl refl;
    }) (λ _.
    cond_both (eqb b 2) _ _ (Step c) (λ _. record {
      frame = refl;
      mode = same refl;
      page_size = refl;
      limit = refl;
      waiting = refl;
      change = none refl refl refl;
    }) (λ _.
    cond_both (eqb b 3) _ _ (Step c) (λ _. record {
      frame = refl;
      mode = same refl;
      page_size = refl;
      limit = refl;
      waiting = refl;
      change = none refl refl refl;
    }) (λ _.
    record { frame = refl; mode = same refl; page_size = refl; limit = refl; waiting = refl; change = none refl refl refl }))))

type_byte_step : (c : StreamProgress) (before : Before) (b : ℕ) → Step c (after_type_byte c before b)
type_byte_step c before b = cond_both (is_passed c.frame c.section before b) _ _ (Step c)
    (λ _. record { frame = refl; mode = same refl; page_size = refl; limit = refl; waiting = refl; change = none refl refl refl }) (λ _. type_step c b)

eos_change : (c new : StreamProgress) (m : Mode) → new.blocks ≡ c.blocks → new.records ≡ eos_records m c.records
    → new.rounds ≡ eos_rounds m c.rounds c.records → Change c new
eos_change c new Single b r s = none b s r
eos_change c new Main b r s = none b s r
eos_change c new MainBySection b r s = whole b s
eos_change c new MainAsShown b r s = whole b s

-- a FLUSH that ends no round has no record before it
flush_ended : (m : Mode) (in_start : Bool) (records : List PageRecord) → flush_ends m in_start (has_none records) ≡ false → [] ≡ records
flush_ended Single in_start records e = absurd cc
flush_ended Main in_start records e = absurd cc
flush_ended MainBySection in_start records e = absurd cc
flush_ended MainAsShown true records e = absurd cc
flush_ended MainAsShown false [] e = refl
flush_ended MainAsShown false (r ∷ records) e = absurd cc

flush_change : (c new : StreamProgress) (ends : Bool) → (ends ≡ false → [] ≡ c.records) → new.blocks ≡ c.blocks → new.records ≡ []
    → new.rounds ≡ flush_rounds ends c.rounds c.records → Change c new
flush_change c new true empty b r s = whole b s
flush_change c new false empty b r s = none b s (r ∙ empty refl)

kind_step : (c : StreamProgress) (k : RecordKind) (page : ℕ) → Step c (after_kind c k page)
kind_step c SizeList page = record { frame = refl; mode = same refl; page_size = refl; limit = refl; waiting = refl; change = none refl refl refl }
kind_step c (Named f) page = record { frame = refl; mode = same refl; page_size = refl; limit = refl; waiting = refl; change = none refl refl refl }
kind_step c (Continued f) page = record { frame = refl; mode = same refl; page_size = refl; limit = refl; waiting = refl; change = none refl refl refl }
kind_step c EndOfSection page = record {
  frame = refl;
  mode = eos_keeps c.mode (is_start c.section);
  page_size = refl;
  limit = refl;
  waiting = refl;
  change = eos_change c (end_records c) c.mode refl refl refl;
}
kind_step c Flush page = record {
  frame = refl;
  mode = flush_keeps c.mode (is_start c.section) (has_none c.records);
  page_size = refl;
  limit = refl;
  waiting = refl;
  change = flush_change c (flush_records c) (flush_ends c.mode (is_start c.section) (has_none c.records))
      (flush_ended c.mode (is_start c.section) c.records) refl refl refl;
}

head_step : (c : StreamProgress) (k : Option RecordKind) (page : ℕ) → Step c (after_head c k page)
head_step c None page = no_change c
head_step c (Some k) page = kind_step c k page

footer_change : (c new : StreamProgress) (m : Mode) → new.blocks ≡ c.blocks → new.records ≡ open_records m c.records
    → new.rounds ≡ whole_rounds m c.rounds c.records → Change c new
footer_change c new Single b r s = whole b s
footer_change c new Main b r s = none b s r
footer_change c new MainBySection b r s = none b s r
footer_change c new MainAsShown b r s = none b s r

item_step : (c : StreamProgress) (d : Due) (item : List ℕ) → Step c (after_item c d item)
item_step c FileHeader item = record { frame = refl; mode = same refl; page_size = refl; limit = refl; waiting = refl; change = none refl refl refl }
item_step c (TypeByte b) item = type_byte_step c b (slice_index item 0)
item_step c ConfigLength item = record { frame = refl; mode = same refl; page_size = refl; limit = refl; waiting = refl; change = none refl refl refl }
item_step c (ConfigName n) item = record { frame = refl; mode = same refl; page_size = refl; limit = refl; waiting = refl; change = none refl refl refl }
item_step c StartHead item = record { frame = refl; mode = same refl; page_size = refl; limit = refl; waiting = refl; change = none refl refl refl }
item_step c SectionHead item = record { frame = refl; mode = same refl; page_size = refl; limit = refl; waiting = refl; change = none refl refl refl }
item_step c RecordHead item = head_step c _ _
item_step c ListEntry item = record { frame = refl; mode = same refl; page_size = refl; limit = refl; waiting = refl; change = block _ refl refl refl }
item_step c (PageSize true) item = cond_both (is_page_size item) _ _ (Step c)
    (λ _. record { frame = refl; mode = same refl; page_size = refl; limit = refl; waiting = refl; change = none refl refl refl }) (λ _. head_step c _ _)
item_step c (PageSize false) item =
    cond_both (is_page_size item) _ _ (Step c)
    (λ _. record { frame = refl; mode = same refl; page_size = refl; limit = refl; waiting = refl; change = none refl refl refl })
    (λ _. record { frame = refl; mode = same refl; page_size = refl; limit = refl; waiting = refl; change = block _ refl refl refl })
item_step c (BlockName f page) item = record { frame = refl; mode = same refl; page_size = refl; limit = refl; waiting = refl; change = none refl refl refl }
item_step c (Content Zero place) item = record { frame = refl; mode = same refl; page_size = refl; limit = refl; waiting = refl; change = one _ refl refl refl }
item_step c (Content Normal place) item = record {
  frame = refl;
  mode = same refl;
  page_size = refl;
  limit = refl;
  waiting = refl;
  change = one _ refl refl refl;
}
item_step c Footer item = record {
  frame = refl;
  mode = same refl;
  page_size = refl;
  limit = refl;
  waiting = refl;
  change = footer_change c (end_section c) c.mode refl refl refl;
}
item_step c (Passed passed) item = record { frame = refl; mode = same refl; page_size = refl; limit = refl; waiting = refl; change = none refl refl refl }
item_step c Nothing item = no_change c

grown_by : (old mid new : StreamProgress) → Change mid new → HasGrown old mid → HasGrown old new
grown_by old mid new (none b r s) h = grown_same old mid new r s h
grown_by old mid new (block x b r s) h = grown_same old mid new r s h
grown_by old mid new (one x b r s) h = grown_record old mid x new r s h
grown_by old mid new (whole b r) h = grown_round old mid new r h

blocks_by : (mid new : StreamProgress) → Change mid new → (more : List Block) × (new.blocks ≡ mid.blocks ++ more)
blocks_by mid new (none b r s) = ([], b ∙ sym (append-nil mid.blocks))
blocks_by mid new (block x b r s) = (x ∷ [], b)
blocks_by mid new (one x b r s) = ([], b ∙ sym (append-nil mid.blocks))
blocks_by mid new (whole b r) = ([], b ∙ sym (append-nil mid.blocks))

-- ---- a whole table stays

-- if there is no fault, the first test doesn't hold, and there is none after it
pub passed : (b : Bool) (f : StreamFault) (more : List (Bool × StreamFault)) → first_of ((b, f) ∷ more) ≡ None → (b ≡ false) × (first_of more ≡ None)
passed true f more e = absurd cc
passed false f more e = (refl, e)

-- where bytes aren't a page size, the tests are those of what stands there
pub not_size : (b : Bool) (tests : List (Bool × StreamFault)) → b ≡ false → first_of (cond b [] tests) ≡ None → first_of tests ≡ None
not_size b tests isnt free = sym (ap (λ (x : Bool). first_of (cond x [] tests)) isnt) ∙ free

used_up : (o : Option ℕ) → is_used_up o ≡ true → o ≡ Some 0
used_up None e = absurd cc
used_up (Some n) e = ap (λ (x : ℕ). Some x) (eqb-true n 0 e)

-- the total and the blocks are the same
abbrev pub SameEntries : StreamProgress → StreamProgress → Type 0
SameEntries old new = (new.left ≡ old.left) × (new.blocks ≡ old.blocks)

type_entries : (c : StreamProgress) (b : ℕ) → SameEntries c (after_type c b)
type_entries c b =
    cond_both (eqb b 7) _ _ (SameEntries c) (λ _. (refl, refl)) (λ _.
    cond_both (eqb b 1) _ _ (SameEntries c) (λ _. (refl, refl)) (λ _.
    cond_both (eqb b 2) _ _ (SameEntries c) (λ _. (refl, refl)) (λ _.
    cond_both (eqb b 3) _ _ (SameEntries c) (λ _. (refl, refl)) (λ _. (refl, refl)))))

type_byte_entries : (c : StreamProgress) (before : Before) (b : ℕ) → SameEntries c (after_type_byte c before b)
type_byte_entries c before b = cond_both (is_passed c.frame c.section before b) _ _ (SameEntries c) (λ _. (refl, refl)) (λ _. type_entries c b)

-- a size list that was whole doesn't begin again
no_list : (o : Option ℕ) (more : List (Bool × StreamFault)) → o ≡ Some 0 → first_of ((is_some o, fault.SizePlace) ∷ more) ≡ None → ⊥
no_list o more e free =
    let none : is_some o ≡ false = (passed (is_some o) fault.SizePlace more free).0 in
    let clash : true ≡ false = ap is_some (sym e) ∙ none in absurd cc

head_entries : (c : StreamProgress) (flags : ℕ) (k : Option RecordKind) (page : ℕ) → c.left ≡ Some 0
    → first_of (head_faults c flags k page) ≡ None → SameEntries c (after_head c k page)
head_entries c flags None page e free = (refl, refl)
head_entries c flags (Some SizeList) page e free = absurd (no_list c.left ((page == 0 || nat_lt c.limit (page * c.page_size), fault.Total) ∷ []) e free)
head_entries c flags (Some (Named f)) page e free = (refl, refl)
head_entries c flags (Some (Continued f)) page e free = (refl, refl)
head_entries c flags (Some EndOfSection) page e free = (refl, refl)
head_entries c flags (Some Flush) page e free = (refl, refl)

-- no entry has 0 bytes, and none more than are left
no_entry : (a b d : Bool) (n m left : ℕ) → left ≡ 0
    → first_of ((a, fault.TooManyBlocks) ∷ ((
      b,
      fault.Id,
    ) ∷ ((d, fault.IdTwice) ∷ ((n == 0 || not (m == 0), fault.Length) ∷ ((nat_lt left n, fault.SizeSum) ∷ []))))) ≡ None → ⊥
no_entry a b d n m left nothing free =
    let length_tests : List (Bool × StreamFault) = (n == 0 || not (m == 0), fault.Length) ∷ ((nat_lt left n, fault.SizeSum) ∷ []) in
    let one = passed a fault.TooManyBlocks ((b, fault.Id) ∷ ((d, fault.IdTwice) ∷ length_tests)) free in
    let two = passed b fault.Id ((d, fault.IdTwice) ∷ length_tests) one.1 in
    let three = passed d fault.IdTwice length_tests two.1 in
    let four = passed (n == 0 || not (m == 0)) fault.Length ((nat_lt left n, fault.SizeSum) ∷ []) three.1 in
    let five = passed (nat_lt left n) fault.SizeSum [] four.1 in
    let some : n ≢ 0 = eqb-false n 0 (first_false (n == 0) (not (m == 0)) four.0) in
    let few : n ≤ left = ltb-false left n five.0 in
    absurd (some (omega (arith, few, nothing)))
  where
    first_false : (x y : Bool) → (x || y) ≡ false → x ≡ false
    first_false true y e = absurd cc
    first_false false y e = refl

entry_entries : {X : Type 0} (c : StreamProgress) (item : List ℕ) → c.left ≡ Some 0 → first_of (entry_faults c item) ≡ None → X
entry_entries {X} c item e free =
    absurd (no_entry (nat_le max_blocks (length c.blocks)) (not (is_id (id_in item))) (is_some (block_of c.blocks (id_in item)))
    (length_in item) (length_in item % c.page_size) (unwrap_or c.left 0)
    (ap (λ (o : Option ℕ). unwrap_or o 0) e) free)

item_entries : (c : StreamProgress) (d : Due) (item : List ℕ) → c.left ≡ Some 0 → first_of (faults c d item) ≡ None → SameEntries c (after_item c d item)
item_entries c FileHeader item e free = (refl, refl)
item_entries c (TypeByte b) item e free = type_byte_entries c b (slice_index item 0)
item_entries c ConfigLength item e free = (refl, refl)
item_entries c (ConfigName n) item e free = (refl, refl)
item_entries c StartHead item e free = (refl, refl)
item_entries c SectionHead item e free = (refl, refl)
item_entries c RecordHead item e free = head_entries c _ _ _ e free
item_entries c ListEntry item e free = entry_entries c item e free
item_entries c (PageSize true) item e free =
    cond_both (is_page_size item) _ _ (SameEntries c) (λ _. (refl, refl))
    (λ isnt. head_entries c _ _ _ e (not_size (is_page_size item) (record_faults c item) isnt free))
item_entries c (PageSize false) item e free =
    cond_both (is_page_size item) _ _ (SameEntries c) (λ _. (refl, refl))
    (λ isnt. entry_entries c item e (not_size (is_page_size item) (entry_faults c item) isnt free))
item_entries c (BlockName f page) item e free = (refl, refl)
item_entries c (Content Zero place) item e free = (refl, refl)
item_entries c (Content Normal place) item e free = (refl, refl)
item_entries c Footer item e free = (refl, refl)
item_entries c (Passed passed) item e free = (refl, refl)
item_entries c Nothing item e free = (refl, refl)

-- ---- items one after another

later_step : (old mid : StreamProgress) (item : List ℕ) → IsLater old mid → first_fault mid item ≡ None → IsLater old (after mid item)
later_step old mid item l free =
    let new : StreamProgress = after mid item in
    let s = item_step mid mid.due item in
    let b = blocks_by mid new s.change in
    record {
      same_frame = s.frame ∙ l.same_frame;
      same_single = s.mode.single ∙ l.same_single;
      same_mode = λ shown. s.mode.settled (ap is_open (l.same_mode shown) ∙ shown) ∙ l.same_mode shown;
      same_page_size = s.page_size ∙ l.same_page_size;
      same_limit = s.limit ∙ l.same_limit;
      same_waiting = s.waiting ∙ l.same_waiting;
      more_blocks = l.more_blocks ++ b.0;
      has_blocks = b.1 ∙ ap (λ (x : List Block). x ++ b.0) l.has_blocks ∙ append_assoc old.blocks l.more_blocks b.0;
      has_grown = grown_by old mid new s.change l.has_grown;
      same_table = λ whole.
          let so_far = l.same_table whole in
          let here = item_entries mid mid.due item (so_far.0 ∙ used_up old.left whole) free in
          (here.0 ∙ so_far.0, here.1 ∙ so_far.1);
    }

later_all : (old mid : StreamProgress) (items : List (List ℕ)) → IsLater old mid → AreFaultless mid items → IsLater old (after_all mid items)
later_all old mid [] l free = l
later_all old mid (item ∷ items) l free = later_all old (after mid item) items (later_step old mid item l free.1) free.2

later_self : (c : StreamProgress) → IsLater c c
later_self c = record {
  same_frame = refl;
  same_single = refl;
  same_mode = λ shown. refl;
  same_page_size = refl;
  same_limit = refl;
  same_waiting = refl;
  more_blocks = [];
  has_blocks = sym (append-nil c.blocks);
  has_grown = same_log c c refl refl;
  same_table = λ _. (refl, refl);
}

-- A front leads to what is later.
pub IsLater-front : (c d : StreamProgress) (bytes : List ℕ) → Front c bytes d → IsLater c d
IsLater-front c d bytes f = subst (λ (x : StreamProgress). IsLater c x) (sym f.leads_to) (later_all c c f.items (later_self c) f.are_faultless)
