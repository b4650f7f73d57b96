-- What is spelled is read as a size list: its head, and an entry for each block with what follows
-- it.
use Rattle.std.proofs.Common.{◌≡◌, ℕ, ◌+◌, ◌*◌, ◌-◌, ◌/◌, ◌%◌, ◌^◌, ◌<◌, ◌≤◌, Bool, true, false, not, cond, eqb, ltb, leb, List, [], ◌∷◌, ◌++◌, length, get_or}
use Rattle.std.proofs.Common.{inl, inr, Some, None, refl, sym, ap, subst, ◌∙◌, append_assoc, arith}
use Rattle.std.specs.Prelude.{◌||◌, ◌&&◌}
use Rattle.std.specs.List.{AllByRecursion}
use Rattle.std.proofs.lemmas.List.{length-append, take_at}
use Rattle.std.proofs.Math.Nat.{add-sub_cancel_left, add-zero}
use Rattle.std.proofs.lemmas.Nat.{div-mul-add, mod-mul-add, mul-le}
use Rattle.std.proofs.lemmas.List.Sums.{sum_by-cons}
use Rattle.std.proofs.lemmas.Bool.{le-ltb, lt-leb, ne_eqb}
use Rattle.mig_mem.specs.PageSize.{IsPageSize}
use Rattle.mig_mem.specs.RamTable.{Block, RamTable, block_of, is_id, total_pages, IsTable, max_blocks}
use Rattle.mig_stream.specs.declared.item.RecordKind.TheVariants.{SizeList}
use Rattle.mig_stream.specs.declared.item.EntryForm.{EntryForm}
use Rattle.mig_stream.specs.declared.item.EntryForm.TheVariants.{Plain, Addressed, Sized}
use Rattle.mig_stream.specs.declared.item.PassedItem.TheVariants.{Address}
use Rattle.mig_stream.specs.declared.item.Due.TheVariants.{RecordHead, ListEntry, PageSize, Passed}
use Rattle.mig_stream.specs.declared.fault.StreamFault.TheVariants as fault
use Rattle.mig_stream.specs.Fields.{be64, counted, be64_at}
use Rattle.mig_stream.specs.Format.{flags_of, least_page_size}
use Rattle.mig_stream.specs.Progress.{StreamProgress}
use Rattle.mig_mem.specs.First.{first_of}
use Rattle.mig_stream.specs.Items.{id_in, length_in, is_page_size, record_faults, entry_faults, list_due, entry_due, first_fault, after_record, after_entry}
use Rattle.mig_stream.specs.Items.{after}
use Rattle.mig_stream.specs.Reading.{Front}
use Rattle.mig_stream.specs.Text.{entry, total_bytes, size_list}
use Rattle.mig_stream.specs.Machine.{IsBlockPageSize, IsTail, entries, tailed_list}
use Rattle.mig_stream.proofs.FoundList.{regroup_entry}
use Rattle.mig_stream.proofs.Fronts.{sized, Front-append}
use Rattle.mig_stream.proofs.SpelledItems.{item_front, be64_back, be64_behind, page_size_large, flags_small, head_front}
use Rattle.mig_stream.proofs.Tables.{AreBlocks, blocks_from_table, sum_of, total_is_sum}
use Rattle.mig_stream.proofs.NoPageSize.{IsElsewhere, unsized_front}
use Rattle.mig_stream.proofs.Tails.{no_tails, no_tails_length, no_tails_plain, no_tails_list}

-- ---- what follows an entry

-- a guest address
address_front : (c : StreamProgress) (last : Bool) (tail : List ℕ) → length tail ≡ 8
    → Front (record c { due = Passed (Address last) }) tail (record c { due = list_due last })
address_front c last tail len = item_front (record c { due = Passed (Address last) }) tail (λ e. absurd cc) len refl

-- a page size is told from all else
first_zero : (n : ℕ) → n < 2 ^ 56 → get_or (be64 n) 0 0 ≡ 0
first_zero n small = omega (arith, small)

size_told : (n : ℕ) → IsBlockPageSize n → is_page_size (be64 n) ≡ true
size_told n is =
    let value : be64_at 0 (be64 n) ≡ n = be64_back n (omega (arith, is.fits)) in
    let zero : eqb (get_or (be64 n) 0 0) 0 ≡ true = ap (λ (x : ℕ). eqb x 0) (first_zero n is.fits) in
    let some : eqb (be64_at 0 (be64 n)) 0 ≡ false = ap (λ (x : ℕ). eqb x 0) value ∙ ne_eqb n 0 (λ e. omega (arith, e, is.is_some)) in
    let whole : eqb (be64_at 0 (be64 n) % least_page_size) 0 ≡ true = ap (λ (x : ℕ). eqb (x % least_page_size) 0) value
    ∙ ap (λ (x : ℕ). eqb x 0) is.is_multiple in
    ap (λ (x : Bool). x && (not (eqb (be64_at 0 (be64 n)) 0) && eqb (be64_at 0 (be64 n) % least_page_size) 0)) zero
    ∙ ap (λ (x : Bool). not x && eqb (be64_at 0 (be64 n) % least_page_size) 0) some ∙ whole

page_size_front : (c : StreamProgress) (last : Bool) (n : ℕ) → IsBlockPageSize n
    → Front (record c { due = PageSize last }) (be64 n) (record c { due = list_due last })
page_size_front c true n is =
    let d : StreamProgress = record c { due = PageSize true } in
    let told = size_told n is in
    let free : first_fault d (be64 n) ≡ None = ap (λ (b : Bool). first_of (cond b [] (record_faults d (be64 n)))) told in
    let new : after d (be64 n) ≡ record c { due = RecordHead } = ap (λ (b : Bool). cond b (record d { due = RecordHead }) (after_record d (be64 n))) told in
    subst (λ (x : StreamProgress). Front d (be64 n) x) new (item_front d (be64 n) (λ e. absurd cc) refl free)
page_size_front c false n is =
    let d : StreamProgress = record c { due = PageSize false } in
    let told = size_told n is in
    let whole : length (be64 n) ≡ sized (get_or (be64 n) 0 0) = sym (ap sized (first_zero n is.fits)) in
    let free : first_fault d (be64 n) ≡ None = ap (λ (b : Bool). first_of (cond b [] (entry_faults d (be64 n)))) told in
    let new : after d (be64 n) ≡ record c { due = ListEntry } = ap (λ (b : Bool). cond b (record d { due = ListEntry }) (after_entry d (be64 n))) told in
    subst (λ (x : StreamProgress). Front d (be64 n) x) new (item_front d (be64 n) (λ e. absurd cc) whole free)

-- what follows an entry, and then all that is left
tail_front : (c d : StreamProgress) (form : EntryForm) (last : Bool) (tail more : List ℕ) → IsPageSize c.page_size → IsTail form tail → IsElsewhere d.due
    → Front (record c { due = list_due last }) more d → Front (record c { due = entry_due form last }) (tail ++ more) d
tail_front c d Plain last tail more size is elsewhere f = subst (λ (t : List ℕ). Front (record c { due = list_due last }) (t ++ more) d) (sym is) f
tail_front c d Addressed last tail more size is elsewhere f = Front-append _ _ _ _ _ (address_front c last tail is) f
tail_front c d Sized last tail more size (inl none) elsewhere f =
    subst (λ (t : List ℕ). Front (record c { due = PageSize last }) (t ++ more) d) (sym none) (unsized_front c d last more size elsewhere f)
tail_front c d Sized last tail more size (inr is) elsewhere f =
    Front-append _ _ _ _ _ (subst (λ (t : List ℕ). Front (record c { due = PageSize last }) t (record c { due = list_due last }))
    (sym is.1) (page_size_front c last is.0 is.2)) f

-- ---- entries

-- an entry, where `left` bytes of the total are left
entry_front : (c : StreamProgress) (before : List Block) (b : Block) (left : ℕ) → IsPageSize c.page_size
    → length before < max_blocks → is_id b.id ≡ true → block_of before b.id ≡ None
    → 0 < b.pages → b.pages * c.page_size ≤ left → left < 2 ^ 64
    → Front (record c { due = ListEntry; left = Some left; blocks = before }) (entry c.page_size b)
    (record c { due = entry_due c.form (eqb (left - b.pages * c.page_size) 0); left = Some (left - b.pages * c.page_size); blocks = before ++ b ∷ [] })
entry_front c before b left size few named apart some fits small =
    let large = page_size_large c.page_size size in
    let item : List ℕ = entry c.page_size b in
    let d : StreamProgress = record c { due = ListEntry; left = Some left; blocks = before } in
    let len : ℕ = b.pages * c.page_size in
    let id_is : id_in item ≡ b.id = rw add-sub_cancel_left (take_at b.id (be64 len) (length b.id) refl) in
    let len_is : length_in item ≡ len = be64_behind (counted b.id) (1 + length b.id) len (omega arith) (omega arith) in
    let pages_are : len / c.page_size ≡ b.pages = ap (λ (x : ℕ). x / c.page_size) (sym (add-zero len))
    ∙ div-mul-add b.pages c.page_size 0 (omega (arith, large)) in
    let whole : len % c.page_size ≡ 0 = ap (λ (x : ℕ). x % c.page_size) (sym (add-zero len)) ∙ mod-mul-add b.pages c.page_size 0 (omega (arith, large)) in
    let positive : 0 < len = omega (arith, mul-le 1 c.page_size b.pages c.page_size some (omega arith), large) in
    let t1 : leb max_blocks (length before) ≡ false = lt-leb _ _ few in
    let t2 : is_id (id_in item) ≡ true = ap is_id id_is ∙ named in
    let t3 : block_of before (id_in item) ≡ None = ap (block_of before) id_is ∙ apart in
    let t4 : eqb len 0 ≡ false = ne_eqb len 0 (λ e. omega arith) in
    let t5 : ltb left len ≡ false = le-ltb _ _ fits in
    let free : first_fault d item ≡ None = rw (t1, t2, t3, len_is, t4, whole, t5) refl in
    let new : after d item ≡ record c {
      due = entry_due c.form (eqb (left - len) 0);
      left = Some (left - len);
      blocks = before ++ b ∷ [];
    } = rw (len_is, id_is, pages_are) refl in
    subst (λ (x : StreamProgress). Front d item x) new (item_front d item (λ e. absurd cc) (omega (arith, length-append b.id (be64 len))) free)

-- the entry goes on to what is left after it
entry_to : (c : StreamProgress) (before : List Block) (b : Block) (left more : ℕ) (last : Bool) → left - b.pages * c.page_size ≡ more → eqb more 0 ≡ last
    → Front (record c { due = ListEntry; left = Some left; blocks = before }) (entry c.page_size b)
    (record c { due = entry_due c.form (eqb (left - b.pages * c.page_size) 0); left = Some (left - b.pages * c.page_size); blocks = before ++ b ∷ [] })
    → Front (record c { due = ListEntry; left = Some left; blocks = before }) (entry c.page_size b)
    (record c { due = entry_due c.form last; left = Some more; blocks = before ++ b ∷ [] })
entry_to c before b left more last more_is last_is front =
    let from : StreamProgress = record c { due = ListEntry; left = Some left; blocks = before } in
    subst (λ (x : Bool). Front from (entry c.page_size b) (record c { due = entry_due c.form x; left = Some more; blocks = before ++ b ∷ [] })) last_is
    (subst (λ (n : ℕ). Front from (entry c.page_size b)
    (record c { due = entry_due c.form (eqb n 0); left = Some n; blocks = before ++ b ∷ [] })) more_is front)

-- the entries of the blocks that are still to come, and all that is left after them
entries_front : (c d : StreamProgress) (before : List Block) (b : Block) (blocks : List Block) (tail : List ℕ) (tails : List
    (List ℕ)) (more : List ℕ) → IsPageSize c.page_size
    → length before + length (b ∷ blocks) ≤ max_blocks → AreBlocks before (b ∷ blocks) → sum_of c.page_size (b ∷ blocks) < 2 ^ 64
    → length tails ≡ length blocks → AllByRecursion (IsTail c.form) (tail ∷ tails) → IsElsewhere d.due
    → Front (record c { due = RecordHead; left = Some 0; blocks = before ++ b ∷ blocks }) more d
    → Front (record c { due = ListEntry; left = Some (sum_of c.page_size (b ∷ blocks)); blocks = before })
    (entries c.page_size (b ∷ blocks) (tail ∷ tails) ++ more) d
entries_front c d before b [] tail [] more size few are small len tailed elsewhere f =
    let left : ℕ = b.pages * c.page_size + 0 in
    let one = entry_front c before b left size (omega arith) are.0 are.1 are.2 (omega arith) small in
    let end = entry_to c before b left 0 true (omega arith) refl one in
    let here : StreamProgress = record c { left = Some 0; blocks = before ++ b ∷ [] } in
    let behind : Front (record here { due = entry_due c.form true }) (tail ++ more) d = tail_front here d c.form true tail more size tailed.0 elsewhere f in
    subst (λ (x : List ℕ). Front (record c { due = ListEntry; left = Some left; blocks = before }) x d)
    (sym (regroup_entry (entry c.page_size b) tail [] more)) (Front-append _ _ _ _ _ end behind)
entries_front c d before b [] tail (other ∷ tails) more size few are small len tailed elsewhere f = absurd (omega (arith, len))
entries_front c d before b (next ∷ blocks) tail [] more size few are small len tailed elsewhere f = absurd (omega (arith, len))
entries_front c d before b (next ∷ blocks) tail (other ∷ tails) more size few are small len tailed elsewhere f =
    let after_it : ℕ = sum_of c.page_size (next ∷ blocks) in
    let left : ℕ = b.pages * c.page_size + after_it in
    let one = entry_front c before b left size (omega arith) are.0 are.1 are.2 (omega arith) small in
    let positive : 0 < after_it = omega (arith, mul-le 1 c.page_size next.pages c.page_size are.3.2 (omega arith), page_size_large c.page_size size) in
    let first = entry_to c before b left after_it false (omega arith) (ne_eqb after_it 0 (λ e. omega arith)) one in
    let here : StreamProgress = record c { left = Some after_it; blocks = before ++ b ∷ [] } in
    let rest : List ℕ = entries c.page_size (next ∷ blocks) (other ∷ tails) in
    let whole : Front (record c { due = RecordHead; left = Some 0; blocks = (before ++ b ∷ []) ++ next ∷ blocks }) more d =
    subst (λ (x : List Block). Front (record c { due = RecordHead; left = Some 0; blocks = x }) more d)
    (sym (append_assoc before (b ∷ []) (next ∷ blocks))) f in
    let others : Front (record here { due = ListEntry }) (rest ++ more) d =
    entries_front c d (before ++ b ∷ []) next blocks other tails more size (omega (arith, length-append before (b ∷ []))) are.3
    (omega arith) (omega (arith, len)) tailed.1 elsewhere whole in
    let behind : Front (record here { due = entry_due c.form false }) (tail ++ (rest ++ more)) d =
    tail_front here d c.form false tail (rest ++ more) size tailed.0 elsewhere others in
    subst (λ (x : List ℕ). Front (record c { due = ListEntry; left = Some left; blocks = before }) x d)
    (sym (regroup_entry (entry c.page_size b) tail rest more)) (Front-append _ _ _ _ _ first behind)

-- the entries of any blocks but none, and all that is left after them
all_entries_front : (c d : StreamProgress) (blocks : List Block) (tails : List (List ℕ)) (more : List ℕ) → IsPageSize c.page_size
    → 0 < length blocks → length blocks ≤ max_blocks → AreBlocks [] blocks
    → sum_of c.page_size blocks < 2 ^ 64 → length tails ≡ length blocks → AllByRecursion (IsTail c.form) tails → IsElsewhere d.due
    → Front (record c { due = RecordHead; left = Some 0; blocks = blocks }) more d
    → Front (record c { due = ListEntry; left = Some (sum_of c.page_size blocks); blocks = [] }) (entries c.page_size blocks tails ++ more) d
all_entries_front c d [] tails more size some few are small len tailed elsewhere f = absurd (omega arith)
all_entries_front c d (b ∷ blocks) [] more size some few are small len tailed elsewhere f = absurd (omega (arith, len))
all_entries_front c d (b ∷ blocks) (tail ∷ tails) more size some few are small len tailed elsewhere f =
    entries_front c d [] b blocks tail tails more size (omega arith) are small (omega (arith, len)) tailed elsewhere f

-- a total of some pages within the limit passes the test
fits_limit : (pages total limit : ℕ) → 0 < pages → total ≤ limit → (eqb pages 0 || ltb limit total) ≡ false
fits_limit pages total limit some fits =
    let positive : eqb pages 0 ≡ false = ne_eqb pages 0 (λ e. omega arith) in
    let below : ltb limit total ≡ false = le-ltb limit total fits in
    rw (positive, below) refl

-- a lawful table has pages, and few bytes
some_pages : (blocks : List Block) → AreBlocks [] blocks → 0 < length blocks → 0 < total_pages blocks
some_pages [] are some = absurd (omega arith)
some_pages (b ∷ blocks) are some = omega (arith, sum_by-cons (λ (x : Block). x.pages) b blocks, are.2)

-- A whole size list, in front of all that is left.
pub tailed_front : (c d : StreamProgress) (table : RamTable) (tails : List (List ℕ)) (more : List ℕ) → IsTable table
    → total_bytes table ≤ c.limit → length tails ≡ length table.blocks → AllByRecursion (IsTail c.form) tails
    → IsElsewhere d.due → Front (record c { page_size = table.page_size; due = RecordHead; left = Some 0; blocks = table.blocks }) more d
    → Front (record c { page_size = table.page_size; due = RecordHead; left = None; blocks = [] }) (tailed_list table tails ++ more) d
unfolding tailed_list
tailed_front c d table tails more is fits len tailed elsewhere f =
    let h : StreamProgress = record c { page_size = table.page_size; left = None; blocks = [] } in
    let total : ℕ = total_bytes table in
    let few : total ≤ 2 ^ 40 = is.has_room in
    let are : AreBlocks [] table.blocks = blocks_from_table table is in
    let some : 0 < total_pages table.blocks = some_pages table.blocks are is.has_blocks in
    let free = ap (λ (x : Bool). first_of ((false, fault.SizePlace) ∷ (x, fault.Total) ∷ [])) (fits_limit (total_pages table.blocks) total c.limit some fits) in
    let head = head_front h SizeList (total_pages table.blocks) is.has_page_size (omega (arith, flags_small SizeList)) free in
    let sum : total ≡ sum_of table.page_size table.blocks = total_is_sum table in
    let listed = all_entries_front h d table.blocks tails more is.has_page_size is.has_blocks is.has_few are (omega arith) len tailed elsewhere f in
    let from : StreamProgress = record h { due = RecordHead } in
    let bytes : List ℕ = be64 (total + flags_of SizeList) in
    let mid : Front from bytes (record h { due = ListEntry; left = Some (sum_of table.page_size table.blocks) }) =
    subst (λ (n : ℕ). Front from bytes (record h { due = ListEntry; left = Some n })) sum head in
    subst (λ (x : List ℕ). Front from x d) (sym (append_assoc bytes (entries table.page_size table.blocks tails) more)) (Front-append _ _ _ _ _ mid listed)

-- The size list of RAM alone.
pub list_front : (c d : StreamProgress) (table : RamTable) (more : List ℕ) → IsTable table → total_bytes table ≤ c.limit
    → IsElsewhere d.due → Front (record c { form = Plain; page_size = table.page_size; due = RecordHead; left = Some 0; blocks = table.blocks }) more d
    → Front (record c { form = Plain; page_size = table.page_size; due = RecordHead; left = None; blocks = [] }) (size_list table ++ more) d
list_front c d table more is fits elsewhere f =
    subst (λ (x : List ℕ). Front (record c {
      form = Plain;
      page_size = table.page_size;
      due = RecordHead;
      left = None;
      blocks = [];
    }) (x ++ more) d) (no_tails_list table)
    (tailed_front (record c { form = Plain }) d table (no_tails table.blocks) more is fits (no_tails_length table.blocks)
    (no_tails_plain table.blocks) elsewhere f)
