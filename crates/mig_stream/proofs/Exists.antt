-- Each stream has a reading, and it has no other.
use Rattle.std.proofs.Common.{◌≡◌, ◌≢◌, ◌⊎◌, ℕ, zero, suc, ◌+◌, ◌*◌, ◌<◌, ◌≤◌, true, false, List, [], ◌++◌, length, get_or, take, drop, Option, Some, None}
use Rattle.std.proofs.Common.{refl, sym, ap, ◌∙◌, inl, inr, append_assoc, eqb, arith}
use Rattle.std.specs.Prelude.{slice_index}
use Rattle.std.proofs.lemmas.Bool.{cond_both, cases_lt}
use Rattle.std.proofs.lemmas.List.{take-append-drop, length-append}
use Rattle.mig_mem.specs.RamTable.{RamTable}
use Rattle.mig_mem.proofs.PageSizes.{page_size_some}
use Rattle.mig_stream.specs.declared.item.Filling.TheVariants.{Zero, Normal}
use Rattle.mig_stream.specs.declared.item.RecordKind.{RecordKind}
use Rattle.mig_stream.specs.declared.item.RecordKind.TheVariants.{SizeList, Named, Continued, EndOfSection, Flush}
use Rattle.mig_stream.specs.declared.item.Before.{Before}
use Rattle.mig_stream.specs.declared.item.PassedItem.{PassedItem}
use Rattle.mig_stream.specs.declared.item.PassedItem.TheVariants.{Command, SubsectionHead, SubsectionBody, Capability, Address, Early}
use Rattle.mig_stream.specs.declared.item.EarlyPart.TheVariants as early
use Rattle.mig_stream.specs.declared.item.Subsection.TheVariants.{PageBits, Uuid, Capabilities}
use Rattle.mig_stream.specs.declared.item.Due.{Due}
use Rattle.mig_stream.specs.declared.item.Due.TheVariants.{FileHeader, TypeByte, ConfigLength, ConfigName, StartHead, SectionHead, RecordHead, ListEntry}
use Rattle.mig_stream.specs.declared.item.Due.TheVariants.{PageSize, BlockName, Content, Footer, Passed, Nothing}
use Rattle.mig_stream.specs.declared.item.StreamState.{StreamState}
use Rattle.mig_stream.specs.declared.item.StreamState.TheVariants.{Reading, Closed}
use Rattle.mig_stream.specs.declared.fault.StreamFault.{StreamFault}
use Rattle.mig_stream.specs.PageRecord.{PageRecord}
use Rattle.mig_stream.specs.Progress.{StreamProgress, start, whole_table}
use Rattle.mig_stream.specs.Items.{passed_size, is_passed, is_page_size, behind_passed, end_section, after_type_byte, size, first_fault, after_type, after_head}
use Rattle.mig_stream.specs.Items.{after_item, after}
use Rattle.mig_stream.proofs.Stopping.{stops}
use Rattle.mig_stream.specs.Reading.{IsItem, Front, Reads, stopped, StreamReading}
use Rattle.mig_stream.specs.Law.{HasOneReading}
use Rattle.mig_stream.proofs.Fronts.{sized, sized_some, Front-none, Front-push, work, no_item, item_at}
use Rattle.mig_stream.proofs.Unique.{one_reading}

-- ---- an item leaves the page size as it was

-- a type byte leaves it
type_size : (c : StreamProgress) (byte : ℕ) → (after_type c byte).page_size ≡ c.page_size
type_size c byte =
    cond_both (eqb byte 7) _ _ (λ (x : StreamProgress). x.page_size ≡ c.page_size) (λ _. refl) (λ _.
    cond_both (eqb byte 1) _ _ (λ (x : StreamProgress). x.page_size ≡ c.page_size) (λ _. refl) (λ _.
    cond_both (eqb byte 2) _ _ (λ (x : StreamProgress). x.page_size ≡ c.page_size) (λ _. refl) (λ _.
    cond_both (eqb byte 3) _ _ (λ (x : StreamProgress). x.page_size ≡ c.page_size) (λ _. refl) (λ _. refl))))

type_byte_size : (c : StreamProgress) (before : Before) (byte : ℕ) → (after_type_byte c before byte).page_size ≡ c.page_size
type_byte_size c before byte = cond_both (is_passed c.frame c.section before byte) _ _ (λ (x : StreamProgress). x.page_size ≡ c.page_size)
    (λ _. refl) (λ _. type_size c byte)

-- so does a record head, of any kind
head_size : (c : StreamProgress) (kind : Option RecordKind) (page : ℕ) → (after_head c kind page).page_size ≡ c.page_size
head_size c None page = refl
head_size c (Some SizeList) page = refl
head_size c (Some (Named filling)) page = refl
head_size c (Some (Continued filling)) page = refl
head_size c (Some EndOfSection) page = refl
head_size c (Some Flush) page = refl

-- and so does each item
item_size : (c : StreamProgress) (d : Due) (item : List ℕ) → (after_item c d item).page_size ≡ c.page_size
item_size c FileHeader item = refl
item_size c (TypeByte before) item = type_byte_size c before (slice_index item 0)
item_size c ConfigLength item = refl
item_size c (ConfigName len) item = refl
item_size c StartHead item = refl
item_size c SectionHead item = refl
item_size c RecordHead item = head_size c _ _
item_size c ListEntry item = refl
item_size c (PageSize true) item = cond_both (is_page_size item) _ _ (λ (x : StreamProgress). x.page_size ≡ c.page_size) (λ _. refl) (λ _. head_size c _ _)
item_size c (PageSize false) item = cond_both (is_page_size item) _ _ (λ (x : StreamProgress). x.page_size ≡ c.page_size) (λ _. refl) (λ _. refl)
item_size c (BlockName filling page) item = refl
item_size c (Content Zero place) item = refl
item_size c (Content Normal place) item = refl
item_size c Footer item = refl
item_size c (Passed passed) item = refl
item_size c Nothing item = refl

-- ---- each item is a step forward

-- the work that is due is 1 at most
work_small : (d : Due) → work d ≤ 1
work_small FileHeader = omega arith
work_small (TypeByte before) = omega arith
work_small ConfigLength = omega arith
work_small (ConfigName len) = omega arith
work_small StartHead = omega arith
work_small SectionHead = omega arith
work_small RecordHead = omega arith
work_small ListEntry = omega arith
work_small (PageSize last) = omega arith
work_small (BlockName filling page) = omega arith
work_small (Content filling place) = omega arith
work_small Footer = omega arith
work_small (Passed passed) = omega arith
work_small Nothing = omega arith

-- an item that is passed over is not empty
passed_some : (passed : PassedItem) (item : List ℕ) → 1 ≤ passed_size passed item
passed_some (Command before) item = omega arith
passed_some SubsectionHead item = omega arith
passed_some (SubsectionBody PageBits) item = omega arith
passed_some (SubsectionBody Uuid) item = omega arith
passed_some (SubsectionBody Capabilities) item = omega arith
passed_some (Capability others) item = omega arith
passed_some (Address last) item = omega arith
passed_some (Early before early.Head) item = omega arith
passed_some (Early before (early.Numbers id)) item = omega arith
passed_some (Early before (early.Plugged id others)) item = omega arith
passed_some (Early before (early.Footer id)) item = omega arith

-- an item is not empty, or it is a name, after which no name comes
pub work_falls : (c : StreamProgress) (d : Due) (item : List ℕ) → 0 < c.page_size → d ≢ Nothing
    → length item ≡ size c.page_size d item → work (after_item c d item).due < 2 * length item + work d
work_falls c FileHeader item some open_ whole = omega arith
work_falls c (TypeByte before) item some open_ whole = omega (arith, work_small (after_type_byte c before (slice_index item 0)).due)
work_falls c ConfigLength item some open_ whole = omega (arith, work_small (after_item c ConfigLength item).due)
work_falls c (ConfigName len) item some open_ whole = omega arith
work_falls c StartHead item some open_ whole = omega arith
work_falls c SectionHead item some open_ whole = omega arith
work_falls c RecordHead item some open_ whole = omega (arith, work_small (after_item c RecordHead item).due)
work_falls c ListEntry item some open_ whole = omega (arith, work_small (after_item c ListEntry item).due)
work_falls c (PageSize true) item some open_ whole = omega (arith, work_small (after_item c (PageSize true) item).due)
work_falls c (PageSize false) item some open_ whole =
    let n : ℕ = get_or item 0 0 in
    let len : length item ≡ sized n = whole in
    let long : 8 ≤ sized n = sized_some n in
    omega (arith, len, long, work_small (after_item c (PageSize false) item).due)
work_falls c (BlockName filling page) item some open_ whole = omega arith
work_falls c (Content Zero place) item some open_ whole = omega arith
work_falls c (Content Normal place) item some open_ whole = omega arith
work_falls c Footer item some open_ whole = omega (arith, work_small (end_section c).due)
work_falls c (Passed passed) item some open_ whole = omega (arith, passed_some passed item, work_small (behind_passed passed item))
work_falls c Nothing item some open_ whole = absurd (open_ refl)

-- whether an item is due at all
is_nothing : (d : Due) → (d ≡ Nothing) ⊎ (d ≢ Nothing)
is_nothing FileHeader = inr (λ e. absurd cc)
is_nothing (TypeByte before) = inr (λ e. absurd cc)
is_nothing ConfigLength = inr (λ e. absurd cc)
is_nothing (ConfigName len) = inr (λ e. absurd cc)
is_nothing StartHead = inr (λ e. absurd cc)
is_nothing SectionHead = inr (λ e. absurd cc)
is_nothing RecordHead = inr (λ e. absurd cc)
is_nothing ListEntry = inr (λ e. absurd cc)
is_nothing (PageSize last) = inr (λ e. absurd cc)
is_nothing (BlockName filling page) = inr (λ e. absurd cc)
is_nothing (Content filling place) = inr (λ e. absurd cc)
is_nothing Footer = inr (λ e. absurd cc)
is_nothing (Passed passed) = inr (λ e. absurd cc)
is_nothing Nothing = inl refl

-- ---- a stream has a reading

-- some reading of a stream from here
abbrev pub SomeReading : StreamProgress → List ℕ → Type 0
SomeReading from text = (to : StreamProgress) × (rest : List ℕ) × (state : StreamState) × Reads from text to rest state

-- whether an item has a fault
faulty : (o : Option StreamFault) → (o ≡ None) ⊎ ((fault : StreamFault) × (o ≡ Some fault))
faulty None = inl refl
faulty (Some fault) = inr (fault, refl)

-- however far a stream has been read, it can be read on, since each item is a step forward
pub read_on : (fuel : ℕ) (from c : StreamProgress) (text front rest : List ℕ) → 0 < c.page_size
    → 2 * length rest + work c.due < fuel → text ≡ front ++ rest → Front from front c → SomeReading from text
read_on zero from c text front rest some few e so_far = absurd (omega arith)
read_on (suc fuel) from c text front rest some few e so_far =
    elim (is_nothing c.due) [
      | inl none ↦ (c, rest, Closed, record { front = front; has_text = e; leads = so_far; ends = inl none })
      | inr open_ ↦ elim (cases_lt (length rest) (size c.page_size c.due rest)) [
        | inl short ↦ (c, rest, Reading, record { front = front; has_text = e; leads = so_far; ends = (open_, no_item c.page_size c.due rest short) })
        | inr le ↦
            let n : ℕ = size c.page_size c.due rest in
            let item : List ℕ = take n rest in
            let more : List ℕ = drop n rest in
            let parts : item ++ more ≡ rest = take-append-drop n rest in
            let is : IsItem c.page_size c.due item = item_at c.page_size c.due rest open_ (omega arith) in
            elim (faulty (first_fault c item)) [
              | inl free ↦
                  let lens : length item + length more ≡ length rest = sym (length-append item more) ∙ ap length parts in
                  let less : work (after c item).due < 2 * length item + work c.due = work_falls c c.due item some open_ is.is_whole in
                  let text_is : text ≡ (front ++ item) ++ more = e ∙ ap (λ (x : List ℕ). front ++ x) (sym parts) ∙ sym (append_assoc front item more) in
                  read_on fuel from (after c item) text (front ++ item) more (omega (arith, item_size c c.due item))
                  (omega arith) text_is (Front-push from c front item so_far is free)
              | inr found ↦ (
                c,
                rest,
                stopped c item found.0,
                record { front = front; has_text = e; leads = so_far; ends = stops c item more rest found.0 (sym parts) is found.1 },
              )
            ]
      ]
    ]

-- two readings of a stream say the same
same_reading : (from : StreamProgress) (text : List ℕ) (other : StreamReading) (c : StreamProgress) (x : List ℕ) (s : StreamState) → Reads from text c x s
    → (d : StreamProgress) (y : List ℕ) → Reads from text d y other.state → other.table ≡ whole_table d → other.rounds ≡ d.rounds
    → other ≡ record { table = whole_table c; rounds = c.rounds; state = s }
same_reading from text other c x s a d y b table rounds =
    let same = one_reading from text d c y x other.state s b a in
    let t : other.table ≡ whole_table c = table ∙ ap whole_table same.0 in
    let r : other.rounds ≡ c.rounds = rounds ∙ ap (λ (p : StreamProgress). p.rounds) same.0 in
    ap (λ (v : Option RamTable). record { table = v; rounds = other.rounds; state = other.state }) t
    ∙ ap (λ (v : List (List PageRecord)). record { table = whole_table c; rounds = v; state = other.state }) r
    ∙ ap (λ (v : StreamState). record { table = whole_table c; rounds = c.rounds; state = v }) same.2

-- a stream can be read on from wherever it was read to
pub reads_from : (from : StreamProgress) (text : List ℕ) → 0 < from.page_size → SomeReading from text
reads_from from text some = read_on (suc (2 * length text + work from.due)) from from text [] text some (omega arith) refl (Front-none from)

-- Each stream has exactly one reading.
pub one_reading_law : HasOneReading
one_reading_law = λ given text is.
    let from : StreamProgress = start given.frame given.mode given.page_size given.limit given.waiting in
    let r = reads_from from text (page_size_some given.page_size is) in
    let reading : StreamReading = record { table = whole_table r.0; rounds = r.0.rounds; state = r.2 } in (
      reading,
      record { to = r.0; rest = r.1; reads = r.3; has_table = refl; has_rounds = refl },
      λ other is_other. same_reading from text other r.0 r.1 r.2 r.3 is_other.to is_other.rest is_other.reads is_other.has_table is_other.has_rounds,
    )
