-- What is read and waits to be given: no more than there were bytes.
use Rattle.std.proofs.Common.{◌≡◌, eqb, ℕ, ◌+◌, ◌*◌, ◌<◌, ◌≤◌, List, [], ◌∷◌, length, Option, Some, None, sym, ap, subst, ◌∙◌, arith, Bool, true, false}
use Rattle.std.specs.Prelude.{slice_index, IfNone}
use Rattle.std.specs.List.{concat}
use Rattle.std.proofs.lemmas.List.{length-append}
use Rattle.std.proofs.lemmas.Bool.{cond_both}
use Rattle.mig_stream.specs.declared.item.Mode.{Mode}
use Rattle.mig_stream.specs.declared.item.Mode.TheVariants.{Single, Main, MainBySection, MainAsShown}
use Rattle.mig_stream.specs.declared.item.Filling.TheVariants.{Zero, Normal}
use Rattle.mig_stream.specs.declared.item.Before.{Before}
use Rattle.mig_stream.specs.declared.item.Due.{Due}
use Rattle.mig_stream.specs.declared.item.Due.TheVariants.{FileHeader, TypeByte, ConfigLength, ConfigName, StartHead, SectionHead, RecordHead, ListEntry}
use Rattle.mig_stream.specs.declared.item.Due.TheVariants.{PageSize, BlockName, Content, Footer, Passed, Nothing}
use Rattle.mig_stream.specs.declared.item.RecordKind.{RecordKind}
use Rattle.mig_stream.specs.declared.item.RecordKind.TheVariants.{SizeList, Named, Continued, EndOfSection, Flush}
use Rattle.mig_stream.specs.declared.item.StreamState.{StreamState}
use Rattle.mig_stream.specs.PageRecord.{PageRecord}
use Rattle.mig_stream.specs.Progress.{StreamProgress}
use Rattle.mig_stream.specs.Items.{is_page_size, is_passed, after_type_byte, size, after_type, after_head, open_records, whole_rounds, after_item, after}
use Rattle.mig_stream.specs.Items.{eos_records, eos_rounds, is_start, has_none, flush_ends, flush_rounds}
use Rattle.mig_stream.specs.Reading.{AreFaultless, after_all, Front}
use Rattle.mig_stream.specs.Taking.{HasTakenTo}
use Rattle.mig_stream.specs.Giving.{Giver, waiting_in, to_go, left}
use Rattle.mig_stream.proofs.Feeding.{front_item}
use Rattle.mig_stream.proofs.Steps.{IsLater-front}

-- at most this many more than before
abbrev HasFew : ℕ → ℕ → StreamProgress → Type 0
HasFew before n c = waiting_in c ≤ before + n

few_type : (c : StreamProgress) (byte n : ℕ) → HasFew (waiting_in c) n (after_type c byte)
few_type c byte n =
    cond_both (eqb byte 7) _ _ (HasFew (waiting_in c) n) (λ _. omega arith) (λ _.
    cond_both (eqb byte 1) _ _ (HasFew (waiting_in c) n) (λ _. omega arith) (λ _.
    cond_both (eqb byte 2) _ _ (HasFew (waiting_in c) n) (λ _. omega arith) (λ _.
    cond_both (eqb byte 3) _ _ (HasFew (waiting_in c) n) (λ _. omega arith) (λ _. omega arith))))

few_type_byte : (c : StreamProgress) (before : Before) (byte n : ℕ) → HasFew (waiting_in c) n (after_type_byte c before byte)
few_type_byte c before byte n = cond_both (is_passed c.frame c.section before byte) _ _ (HasFew (waiting_in c) n) (λ _. omega arith) (λ _. few_type c byte n)

few_eos : (mode : Mode) (rounds : List (List PageRecord)) (records : List PageRecord)
    → length (eos_rounds mode rounds records) + length (eos_records mode records) ≤ length rounds + length records + 1
few_eos Single rounds records = omega arith
few_eos Main rounds records = omega arith
few_eos MainBySection rounds records = omega (arith, length-append rounds (records ∷ []))
few_eos MainAsShown rounds records = omega (arith, length-append rounds (records ∷ []))

few_flush : (ends : Bool) (rounds : List (List PageRecord)) (records : List PageRecord)
    → length (flush_rounds ends rounds records) ≤ length rounds + length records + 1
few_flush true rounds records = omega (arith, length-append rounds (records ∷ []))
few_flush false rounds records = omega arith

few_head : (c : StreamProgress) (kind : Option RecordKind) (page n : ℕ) → 1 ≤ n → HasFew (waiting_in c) n (after_head c kind page)
few_head c None page n some = omega arith
few_head c (Some SizeList) page n some = omega arith
few_head c (Some (Named filling)) page n some = omega arith
few_head c (Some (Continued filling)) page n some = omega arith
few_head c (Some EndOfSection) page n some = omega (arith, some, few_eos c.mode c.rounds c.records)
few_head c (Some Flush) page n some = omega (arith, some, few_flush (flush_ends c.mode (is_start c.section) (has_none c.records)) c.rounds c.records)

few_footer : (mode : Mode) (rounds : List (List PageRecord)) (records : List PageRecord)
    → length (whole_rounds mode rounds records) + length (open_records mode records) ≤ length rounds + length records + 1
few_footer Single rounds records = omega (arith, length-append rounds (records ∷ []))
few_footer Main rounds records = omega arith
few_footer MainBySection rounds records = omega arith
few_footer MainAsShown rounds records = omega arith

-- an item adds one at most, and none if it is empty
few_item : (c : StreamProgress) (d : Due) (item : List ℕ) → 0 < c.page_size → length item ≡ size c.page_size d item
    → HasFew (waiting_in c) (length item) (after_item c d item)
few_item c FileHeader item some whole = omega arith
few_item c (TypeByte before) item some whole = few_type_byte c before (slice_index item 0) (length item)
few_item c ConfigLength item some whole = omega arith
few_item c (ConfigName len) item some whole = omega arith
few_item c StartHead item some whole = omega arith
few_item c SectionHead item some whole = omega arith
few_item c RecordHead item some whole = few_head c _ _ (length item) (omega arith)
few_item c ListEntry item some whole = omega arith
few_item c (PageSize true) item some whole =
    cond_both (is_page_size item) _ _ (HasFew (waiting_in c) (length item)) (λ _. omega arith) (λ _. few_head c _ _ (length item) (omega (arith, whole)))
few_item c (PageSize false) item some whole = cond_both (is_page_size item) _ _ (HasFew (waiting_in c) (length item)) (λ _. omega arith) (λ _. omega arith)
few_item c (BlockName filling page) item some whole = omega arith
few_item c (Content Zero place) item some whole = omega (arith, whole, length-append c.records (record { place = place; content = None } ∷ []))
few_item c (Content Normal place) item some whole = omega (arith, some, whole, length-append c.records (record { place = place; content = Some item } ∷ []))
few_item c Footer item some whole = omega (arith, whole, few_footer c.mode c.rounds c.records)
few_item c (Passed passed) item some whole = omega arith
few_item c Nothing item some whole = omega arith

few_all : (c : StreamProgress) (items : List (List ℕ)) → 0 < c.page_size → AreFaultless c items
    → HasFew (waiting_in c) (length (concat items)) (after_all c items)
few_all c [] some free = omega arith
few_all c (item ∷ items) some free =
    let size_there : (after c item).page_size ≡ c.page_size = (IsLater-front c (after c item) item (front_item c item free.0 free.1)).same_page_size in
    let there = few_all (after c item) items (omega (arith, some, size_there)) free.2 in
    omega (arith, there, few_item c c.due item some free.0.is_whole, length-append item (concat items))

few_front : (c d : StreamProgress) (bytes : List ℕ) → 0 < c.page_size → Front c bytes d → HasFew (waiting_in c) (length bytes) d
few_front c d bytes some f =
    subst (λ (b : List ℕ). HasFew (waiting_in c) (length b) d) (sym f.has_bytes)
    (subst (HasFew (waiting_in c) (length (concat f.items))) (sym f.leads_to) (few_all c f.items some f.are_faultless))

-- Reading on leaves less to go, and so does the end of reading.
pub reads_less : (old new : Giver) → 0 < old.progress.page_size → old.found ≡ None
    → HasTakenTo old.progress old.rest new.rest new.progress → IfNone new.found (length new.rest < length old.rest) → left new < left old
reads_less old new some none taken moves =
    let few = few_front old.progress new.progress taken.0 some taken.2 in
    let bytes : length old.rest ≡ length taken.0 + length new.rest = ap (λ (x : List ℕ). length x) taken.1 ∙ length-append taken.0 new.rest in
    let here : to_go old.found ≡ 1 = ap to_go none in
    let there : to_go new.found + 2 * length new.rest + length taken.0 < 2 * length old.rest + 1 =
    found_less new.found (length old.rest) (length new.rest) (length taken.0) bytes moves in
    omega (arith, few, bytes, here, there)
  where
    found_less : (o : Option StreamState) (n m k : ℕ) → n ≡ k + m → IfNone o (m < n) → to_go o + 2 * m + k < 2 * n + 1
    found_less None n m k is lt = omega (arith, is, lt)
    found_less (Some s) n m k is lt = omega (arith, is)
