-- A record head without a fault goes in front of what is left after it, kind by kind.
use Rattle.std.proofs.Common.{◌≡◌, ℕ, ◌+◌, ◌*◌, ◌≤◌, true, false, not, eqb, ltb, List, [], ◌∷◌, ◌++◌, Option, Some, None, ap, ◌∙◌}
use Rattle.std.specs.Prelude.{◌||◌, is_none, is_some}
use Rattle.std.specs.Option.{unwrap_or}
use Rattle.std.proofs.lemmas.Bool.{not-false, eqb-true, ltb-true, ltb-false, or_parts}
use Rattle.mig_mem.specs.Place.{place_at}
use Rattle.mig_stream.specs.declared.item.Filling.{Filling}
use Rattle.mig_stream.specs.declared.item.RecordKind.{RecordKind}
use Rattle.mig_stream.specs.declared.item.RecordKind.TheVariants.{SizeList, Named, Continued, EndOfSection, Flush}
use Rattle.mig_stream.specs.declared.item.Due.TheVariants.{RecordHead, Content}
use Rattle.mig_stream.specs.declared.fault.StreamFault.TheVariants as fault
use Rattle.mig_stream.specs.Fields.{be64}
use Rattle.mig_stream.specs.Format.{flags_of}
use Rattle.mig_stream.specs.Progress.{StreamProgress}
use Rattle.mig_mem.specs.First.{first_of}
use Rattle.mig_stream.specs.Items.{record_kind, has_page, is_single, is_full, head_faults, after_head}
use Rattle.mig_stream.proofs.FoundFields.{kind_found}
use Rattle.mig_stream.proofs.FoundPages.{RestOfBody, RestOfPage, named_back, continued_back}
use Rattle.mig_stream.proofs.FoundSections.{at_head, end_back, flush_back, bare_head}
use Rattle.mig_stream.proofs.FoundList.{list_back}
use Rattle.mig_stream.proofs.FoundTail.{Behind}
use Rattle.mig_stream.proofs.FoundRest.{RestAt, RestFrom}
use Rattle.mig_stream.proofs.Steps.{passed}

-- ---- the size list has been read, or hasn't

-- a size list that was not begun has left nothing
unread : (o : Option ℕ) (n : ℕ) → is_some o ≡ false → o ≡ Some n → ⊥
unread None n e is = absurd cc
unread (Some x) n e is = absurd cc

-- one that was begun has left something, or 0
read_already : (o : Option ℕ) → is_none o ≡ false → o ≡ None → ⊥
read_already None e is = absurd cc
read_already (Some x) e is = absurd cc

-- after the size list, a record head is followed by the records' rest
behind_list : (to c : StreamProgress) (bytes : List ℕ) → is_none c.left ≡ false
    → (c.left ≡ Some 0 → RestOfBody (Behind to) c bytes) → RestAt to c RecordHead bytes
behind_list to c bytes used rest = ((λ none. absurd (read_already c.left used none)), rest)

-- ---- page records of the block that was named last

-- the test found that there is such a block, and in it the page
some_block_back : (Behind : StreamProgress → List ℕ → Type 0) (c : StreamProgress) (named : Option ℕ) (page : ℕ) (item bytes : List ℕ) (f : Filling)
    → item ≡ be64 (page * c.page_size + flags_of (Continued f)) → has_page c.blocks named page ≡ true
    → RestOfPage Behind (record c { due = Content f (place_at (unwrap_or named 0) page); named = named }) f (place_at (unwrap_or named 0) page) bytes
    → RestOfBody Behind (record c { due = RecordHead; named = named }) (item ++ bytes)
some_block_back Behind c None page item bytes f head in_range r = absurd cc
some_block_back Behind c (Some b) page item bytes f head in_range r = continued_back Behind c b page item bytes f head (ltb-true _ _ in_range) r

-- ---- heads by their kind

-- a head's bytes, by its kind
kind_head : (c : StreamProgress) (flags page : ℕ) (item : List ℕ) (kind : RecordKind) → item ≡ be64 (page * c.page_size + flags)
    → record_kind flags ≡ Some kind → item ≡ be64 (page * c.page_size + flags_of kind)
kind_head c flags page item kind head is = head ∙ ap (λ (x : ℕ). be64 (page * c.page_size + x)) (kind_found flags kind is)

-- a page number that the test found to be 0
zero_page : (page : ℕ) → first_of ((not (eqb page 0), fault.OffsetOut) ∷ []) ≡ None → page ≡ 0
zero_page page free = eqb-true page 0 (not-false (eqb page 0) (passed (not (eqb page 0)) fault.OffsetOut [] free).0)

-- A record head in front of what is left after its kind.
pub head_back : (to c : StreamProgress) (flags page : ℕ) (item bytes : List ℕ) (kind : Option RecordKind)
    → item ≡ be64 (page * c.page_size + flags) → record_kind flags ≡ kind
    → first_of (head_faults c flags kind page) ≡ None → RestFrom to (after_head c kind page) bytes → RestAt to c RecordHead (item ++ bytes)
head_back to c flags page item bytes None head is free r = absurd cc
head_back to c flags page item bytes (Some SizeList) head is free r =
    let wrong = eqb page 0 || ltb c.limit (page * c.page_size) in
    let t1 = passed (is_some c.left) fault.SizePlace ((wrong, fault.Total) ∷ []) free in
    let t2 = passed wrong fault.Total [] t1.1 in
    let small : page * c.page_size ≤ c.limit = ltb-false _ _ (or_parts (eqb page 0) (ltb c.limit (page * c.page_size)) t2.0).1 in
    ((λ none. list_back (Behind to) c page item bytes (kind_head c flags page item SizeList head is) small r), (λ used. absurd (unread c.left 0 t1.0 used)))
head_back to c flags page item bytes (Some (Named f)) head is free r =
    let t1 = passed (is_none c.left) fault.SizePlace ((is_full c.room, fault.Waiting) ∷ []) free in
    behind_list to c (item ++ bytes) t1.0 (λ used. named_back (Behind to) c page item bytes f (kind_head c flags page item (Named f) head is) (r used))
head_back to c flags page item bytes (Some (Continued f)) head is free r =
    let out = not (has_page c.blocks c.named page) in
    let t1 = passed (is_none c.left) fault.SizePlace ((is_full c.room, fault.Waiting) ∷ (is_none c.named, fault.NoBlock) ∷ (out, fault.OffsetOut) ∷ []) free in
    let t2 = passed (is_full c.room) fault.Waiting ((is_none c.named, fault.NoBlock) ∷ (out, fault.OffsetOut) ∷ []) t1.1 in
    let t3 = passed (is_none c.named) fault.NoBlock ((out, fault.OffsetOut) ∷ []) t2.1 in
    let t4 = passed out fault.OffsetOut [] t3.1 in
    let in_range : has_page c.blocks c.named page ≡ true = not-false (has_page c.blocks c.named page) t4.0 in
    behind_list to c (item ++ bytes) t1.0 (λ used. at_head (Behind to) c (item ++ bytes)
    (some_block_back (Behind to) c c.named page item bytes f (kind_head c flags page item (Continued f) head is) in_range (r used)))
head_back to c flags page item bytes (Some EndOfSection) head is free r =
    let t1 = passed (is_none c.left) fault.SizePlace ((not (eqb page 0), fault.OffsetOut) ∷ []) free in
    let h = bare_head c.page_size page (flags_of EndOfSection) item (kind_head c flags page item EndOfSection head is) (zero_page page t1.1) in
    behind_list to c (item ++ bytes) t1.0 (λ used. end_back (Behind to) c item bytes h (r used))
head_back to c flags page item bytes (Some Flush) head is free r =
    let t1 = passed (is_none c.left) fault.SizePlace ((is_single c.mode, fault.Flush) ∷ (not (eqb page 0), fault.OffsetOut) ∷ []) free in
    let t2 = passed (is_single c.mode) fault.Flush ((not (eqb page 0), fault.OffsetOut) ∷ []) t1.1 in
    let h = bare_head c.page_size page (flags_of Flush) item (kind_head c flags page item Flush head is) (zero_page page t2.1) in
    behind_list to c (item ++ bytes) t1.0 (λ used. flush_back (Behind to) c item bytes h t2.0 (r.1 used))
