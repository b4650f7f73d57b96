-- What a sender wrote is loaded whole, whatever follows it, and within a limit on what waits.
use Rattle.std.proofs.Common.{ℕ, ◌≡◌, ◌+◌, arith, List, [], ◌∷◌, ◌++◌, length, map, Option, None, Some, sym, ap, ◌∙◌, inl, inr, subst, refl}
use Rattle.std.specs.Prelude.{◌⊎◌, ◌≤◌, Result, Ok, ⊤}
use Rattle.std.proofs.lemmas.List.{append-nil, length-map}
use Rattle.std.proofs.lemmas.List.Elements.{All-nil, All-cons, All-head, All-tail, All-append}
use Rattle.mig_mem.specs.PageSize.{IsPageSize}
use Rattle.mig_mem.specs.RamTable.{RamTable, IsTable}
use Rattle.mig_mem.specs.Image.{Page, Image, IsImage}
use Rattle.mig_mem.specs.Round.{IsRound, with_rounds}
use Rattle.std.specs.Prelude.{All}
use Rattle.mig_stream.specs.declared.item.Frame.{Frame}
use Rattle.mig_stream.specs.declared.item.Frame.TheVariants.{Ram, Machine}
use Rattle.mig_stream.specs.declared.item.Mode.TheVariants.{Single}
use Rattle.mig_stream.specs.PageRecord.{PageRecord}
use Rattle.mig_stream.specs.Reading.{settings, in_frame, with_waiting, StreamReading, IsReading}
use Rattle.mig_stream.specs.Text.{total_bytes}
use Rattle.mig_stream.specs.Written.{RoundPart, written_record, single}
use Rattle.mig_stream.specs.MachineWritten.{machine_written}
use Rattle.mig_stream.specs.Law.{closed}
use Rattle.mig_stream.proofs.SpelledText.{spelled_law}
use Rattle.mig_stream.proofs.SpelledMachine.{machine_is_read}
use Rattle.mig_stream.proofs.LetThrough.{through_law}
use Rattle.mig_stream.proofs.WrittenText.{written_single}
use Rattle.mig_stream.proofs.WrittenMachine.{machine_singles}
use Rattle.mig_load_types.specs.declared.settings.LoadSettings.{LoadSettings}
use Rattle.mig_load_types.specs.declared.loaded.Loaded.{Loaded}
use Rattle.mig_load_types.specs.declared.fault.LoadFault.{LoadFault}
use Rattle.mig_load_types.specs.Settings.{single_of, ram_settings, for_table, LetsThrough}
use Rattle.mig_single_load.specs.SingleLoad.{IsSingleAnswer, IsSingleWithoutMemory, HasLoadedRounds, unloaded, verdict_of}
use Rattle.mig_single_load.specs.Loader.{Loader, Answers}
use Rattle.mig_single_load.specs.InPlace.{settings_of, IsOfOwnTable, HasRecordsOnto, HasSectionsOnto, HasVerdictOnto}
use Rattle.mig_single_load.specs.MachineSent.{IsSent, IsMachineSent, SentIsLoadedWithin, MachineSentIsLoadedInPlace}
use Rattle.mig_single_load.proofs.Sections.{same_reading, closed_answer_is, sent_answer_is}
use Rattle.mig_single_load.proofs.Onto.{sent_sections}
use Rattle.mig_single_load.proofs.LoadsInPlace.{closed_by_sections}

-- the sections that are read of rounds: START and END bring no page
abbrev pub sections_of : List (List Page) → List (List PageRecord)
sections_of rounds = [] ∷ map (map written_record) rounds ++ [] ∷ []

-- ---- within a limit

abbrev IsFew : ℕ → List PageRecord → Type 0
IsFew limit round = length round ≤ limit

few_rounds : (limit : ℕ) (rounds : List (List Page)) → All (λ (round : List Page). length round ≤ limit) rounds
    → All (IsFew limit) (map (map written_record) rounds)
few_rounds limit [] all = All-nil (IsFew limit)
few_rounds limit (round ∷ rounds) all =
    All-cons (IsFew limit) (map written_record round) (map (map written_record) rounds)
    (subst (λ (n : ℕ). n ≤ limit) (sym (length-map round written_record)) (All-head (λ (r : List Page). length r ≤ limit) round rounds all))
    (few_rounds limit rounds (All-tail (λ (r : List Page). length r ≤ limit) round rounds all))

few_sections : (limit : ℕ) (rounds : List (List Page)) → All (λ (round : List Page). length round ≤ limit) rounds → All (IsFew limit) (sections_of rounds)
few_sections limit rounds all =
    let none : IsFew limit [] = omega arith in
    All-cons (IsFew limit) [] (map (map written_record) rounds ++ [] ∷ []) none
    (All-append (IsFew limit) (map (map written_record) rounds) ([] ∷ []) (few_rounds limit rounds all)
    (All-cons (IsFew limit) [] [] none (All-nil (IsFew limit))))

-- what is read without a limit is read within one that lets the rounds through
within : (given : LoadSettings) (table : RamTable) (rounds : List (List Page)) (text : List ℕ) → LetsThrough given.waiting rounds
    → IsReading (in_frame given.frame (settings Single given.page_size given.limit)) text (closed table (sections_of rounds))
    → IsReading (single_of given) text (closed table (sections_of rounds))
within given table rounds text lets read = by_limit given.waiting refl
  where
    by_limit : (w : Option ℕ) → given.waiting ≡ w → IsReading (single_of given) text (closed table (sections_of rounds))
    by_limit None e =
        subst (λ (w : Option ℕ). IsReading (with_waiting w (in_frame given.frame (settings Single given.page_size given.limit)))
        text (closed table (sections_of rounds))) (sym e) read
    by_limit (Some limit) e = through_law (single_of given) limit text (closed table (sections_of rounds)) e read refl
        (few_sections limit rounds (subst (λ (w : Option ℕ). LetsThrough w rounds) e lets))

-- ---- the readings

-- of these bytes in a frame, with the page size and the limit of a load
framed : (given : LoadSettings) (f : Frame) (table : RamTable) (rounds : List (List Page)) (text bytes : List ℕ) → given.frame ≡ f
    → table.page_size ≡ given.page_size → text ≡ bytes
    → IsReading (in_frame f (settings Single table.page_size given.limit)) bytes (closed table (sections_of rounds))
    → IsReading (in_frame given.frame (settings Single given.page_size given.limit)) text (closed table (sections_of rounds))
framed given f table rounds text bytes frame same is read =
    let reading : StreamReading = closed table (sections_of rounds) in
    subst (λ (x : List ℕ). IsReading (in_frame given.frame (settings Single given.page_size given.limit)) x reading) (sym is)
    (subst (λ (g : Frame). IsReading (in_frame g (settings Single given.page_size given.limit)) bytes reading) (sym frame)
    (subst (λ (n : ℕ). IsReading (in_frame f (settings Single n given.limit)) bytes reading) same read))

pub ram_read : (given : LoadSettings) (table : RamTable) (rounds : List (List Page)) (text : List ℕ) → given.frame ≡ Ram
    → LetsThrough given.waiting rounds → table.page_size ≡ given.page_size
    → IsSent given.limit table rounds text → IsReading (single_of given) text (closed table (sections_of rounds))
ram_read given table rounds text frame lets same sent =
    within given table rounds text lets (framed given Ram table rounds text (single table rounds ++ sent.behind) frame same sent.is_text
    (spelled_law Single given.limit (single table rounds) sent.behind table (sections_of rounds)
    (written_single table rounds given.limit sent.is_table sent.has_limit sent.are_rounds)))

pub machine_read : (given : LoadSettings) (table : RamTable) (rounds : List (List Page)) (text : List ℕ) → given.frame ≡ Machine
    → LetsThrough given.waiting rounds → table.page_size ≡ given.page_size
    → IsMachineSent given.limit table rounds text → IsReading (single_of given) text (closed table (sections_of rounds))
machine_read given table rounds text frame lets same sent =
    let written : List ℕ = machine_written sent.name table (map RoundPart rounds) in
    within given table rounds text lets (framed given Machine table rounds text (written ++ sent.behind) frame same sent.is_text
    (machine_is_read Single given.limit written sent.behind table (sections_of rounds)
    (machine_singles given.limit sent.name table rounds sent.has_name sent.is_table sent.has_limit sent.are_rounds)))

-- the single stream of the same rounds
alone_read : (limit : ℕ) (table : RamTable) (rounds : List (List Page)) (p : ℕ) → table.page_size ≡ p → IsTable table
    → total_bytes table ≤ limit → All (IsRound table) rounds
    → IsReading (settings Single p limit) (single table rounds) (closed table (sections_of rounds))
alone_read limit table rounds p same is room all =
    let alone : List ℕ = single table rounds in
    let reading : StreamReading = closed table (sections_of rounds) in
    subst (λ (n : ℕ). IsReading (settings Single n limit) alone reading) same
    (subst (λ (x : List ℕ). IsReading (settings Single table.page_size limit) x reading) (append-nil alone)
    (spelled_law Single limit alone [] table (sections_of rounds) (written_single table rounds limit is room all)))

-- ---- the answer

-- an answer on a stream without a machine, as it was sent, within a limit that lets its rounds
-- through, has these rounds loaded, unless an allocation was refused
pub ram_is_loaded : {A : Type 0} (given : LoadSettings) (text : List ℕ) (a : Loaded A) → IsPageSize given.page_size
    → IsSingleAnswer given text a ⊎ IsSingleWithoutMemory given text a
    → (table : RamTable) (rounds : List (List Page)) → given.frame ≡ Ram → LetsThrough given.waiting rounds
    → table.page_size ≡ given.page_size → IsSent given.limit table rounds text
    → HasLoadedRounds table rounds a ⊎ IsSingleWithoutMemory given text a
ram_is_loaded given text a size (inr want) table rounds frame lets same sent = inr want
ram_is_loaded given text a size (inl answer) table rounds frame lets same sent =
    inl (closed_answer_is given text a size answer table rounds same sent.are_rounds (ram_read given table rounds text frame lets same sent))

-- an answer on a machine's stream, as it was sent, within a limit that lets its rounds through,
-- has these rounds loaded, unless an allocation was refused
pub machine_is_loaded : {A : Type 0} (given : LoadSettings) (text : List ℕ) (a : Loaded A) → IsPageSize given.page_size
    → IsSingleAnswer given text a ⊎ IsSingleWithoutMemory given text a
    → (table : RamTable) (rounds : List (List Page)) → given.frame ≡ Machine → LetsThrough given.waiting rounds
    → table.page_size ≡ given.page_size → IsMachineSent given.limit table rounds text
    → HasLoadedRounds table rounds a ⊎ IsSingleWithoutMemory given text a
machine_is_loaded given text a size (inr want) table rounds frame lets same sent = inr want
machine_is_loaded given text a size (inl answer) table rounds frame lets same sent =
    inl (closed_answer_is given text a size answer table rounds same sent.are_rounds (machine_read given table rounds text frame lets same sent))

-- ---- in pieces

-- a loader that was fed the single stream of some rounds answers with these rounds loaded, or
-- NoMemory, with nothing loaded
pub sent_is_finished : {A : Type 0} (limit : ℕ) (l : Loader) (a : Loaded A) (table : RamTable) (rounds : List (List Page))
    → IsTable table → total_bytes table ≤ limit → All (IsRound table) rounds
    → Answers (ram_settings table.page_size limit) l (single table rounds) a → HasLoadedRounds table rounds a ⊎ (a ≡ unloaded)
sent_is_finished limit l a table rounds is room all (inl answer) =
    inl (sent_answer_is table.page_size limit (single table rounds) a is.has_page_size answer.1 table rounds is refl room all refl)
sent_is_finished limit l a table rounds is room all (inr waits) = inr waits.1

-- a loader that was fed a stream without a machine, as it was sent, within a limit that lets its
-- rounds through, answers with these rounds loaded, or NoMemory
pub ram_is_finished : {A : Type 0} (given : LoadSettings) (l : Loader) (text : List ℕ) (a : Loaded
    A) (table : RamTable) (rounds : List (List Page)) → IsPageSize given.page_size → given.frame ≡ Ram
    → LetsThrough given.waiting rounds → table.page_size ≡ given.page_size → IsSent given.limit table rounds text
    → Answers given l text a → HasLoadedRounds table rounds a ⊎ (a ≡ unloaded)
ram_is_finished given l text a table rounds size frame lets same sent (inl answer) =
    inl (closed_answer_is given text a size answer.1 table rounds same sent.are_rounds (ram_read given table rounds text frame lets same sent))
ram_is_finished given l text a table rounds size frame lets same sent (inr waits) = inr waits.1

-- a loader that was fed a machine's stream, as it was sent, within a limit that lets its rounds
-- through, answers with these rounds loaded, or NoMemory
pub machine_is_finished : {A : Type 0} (given : LoadSettings) (l : Loader) (text : List ℕ) (a : Loaded
    A) (table : RamTable) (rounds : List (List Page)) → IsPageSize given.page_size → given.frame ≡ Machine
    → LetsThrough given.waiting rounds → table.page_size ≡ given.page_size → IsMachineSent given.limit table rounds text
    → Answers given l text a → HasLoadedRounds table rounds a ⊎ (a ≡ unloaded)
machine_is_finished given l text a table rounds size frame lets same sent (inl answer) =
    inl (closed_answer_is given text a size answer.1 table rounds same sent.are_rounds (machine_read given table rounds text frame lets same sent))
machine_is_finished given l text a table rounds size frame lets same sent (inr waits) = inr waits.1

-- ---- in place

-- what is read of rounds makes these, of a load that has the complete sections
pub read_by_sections : (given : LoadSettings) (first : Image) (rounds : List
    (List Page)) (text : List ℕ) (memory : Image) (sections : ℕ) (verdict : Result ⊤ LoadFault) → IsTable first.table
    → total_bytes first.table ≤ given.limit → All (IsRound first.table) rounds
    → IsReading (settings_of first given) text (closed first.table (sections_of rounds))
    → HasSectionsOnto given first text memory sections → HasVerdictOnto given first text verdict
    → (memory ≡ with_rounds first rounds) × (sections ≡ length rounds + 2) × (verdict ≡ Ok _)
read_by_sections given first rounds text memory sections verdict is room all read whole v =
    let table : RamTable = first.table in
    let load : LoadSettings = for_table table given in
    let size : IsPageSize table.page_size = is.has_page_size in
    let reading : StreamReading = closed table (sections_of rounds) in
    let told : v.reading ≡ reading = same_reading load text v.reading reading size v.is_reading read in
    let own : IsOfOwnTable first v.reading = inr (ap (λ (r : StreamReading). r.table) told) in
    let ok : verdict ≡ Ok _ = v.own own ∙ ap (λ (r : StreamReading). verdict_of (length r.rounds) r.state) told in
    let here : whole.reading ≡ reading = same_reading load text whole.reading reading size whole.is_reading read in
    let alone : HasSectionsOnto (ram_settings table.page_size given.limit) first (single table rounds) memory sections = record {
      reading = whole.reading;
      is_reading = subst (λ (r : StreamReading). IsReading (settings Single table.page_size given.limit) (single table rounds) r)
          (sym here) (alone_read given.limit table rounds table.page_size refl is room all);
      same_table = whole.same_table;
      own = whole.own;
      other = whole.other;
    } in
    let both = sent_sections given.limit first rounds memory sections is room all alone in
    (both.0, both.1, ok)

-- and so of a load in place, whose verdict says that it has no records of an open section
read_in_place : (given : LoadSettings) (first : Image) (rounds : List
    (List Page)) (text : List ℕ) (memory : Image) (sections : ℕ) (verdict : Result ⊤ LoadFault) → IsImage first → IsTable first.table
    → total_bytes first.table ≤ given.limit → All (IsRound first.table) rounds
    → IsReading (settings_of first given) text (closed first.table (sections_of rounds))
    → HasRecordsOnto given first text memory sections → HasVerdictOnto given first text verdict
    → (memory ≡ with_rounds first rounds) × (sections ≡ length rounds + 2) × (verdict ≡ Ok _)
read_in_place given first rounds text memory sections verdict is_image is room all read has v =
    let table : RamTable = first.table in
    let reading : StreamReading = closed table (sections_of rounds) in
    let told : v.reading ≡ reading = same_reading (for_table table given) text v.reading reading is.has_page_size v.is_reading read in
    let own : IsOfOwnTable first v.reading = inr (ap (λ (r : StreamReading). r.table) told) in
    let ok : verdict ≡ Ok _ = v.own own ∙ ap (λ (r : StreamReading). verdict_of (length r.rounds) r.state) told in
    read_by_sections given first rounds text memory sections verdict is room all read
    (closed_by_sections given first text memory sections is is_image has (subst (λ (r : Result ⊤ LoadFault). HasVerdictOnto given first text r) ok v)) v

-- RAM that was sent is loaded in place as it was sent
pub ram_in_place : SentIsLoadedWithin
ram_in_place = λ given first rounds text memory sections verdict is_image frame lets sent has v.
    read_in_place given first rounds text memory sections verdict is_image sent.is_table sent.has_limit sent.are_rounds
    (ram_read (for_table first.table given) first.table rounds text frame lets refl sent) has v

-- a machine's stream that was sent is loaded in place as it was sent
pub machine_in_place : MachineSentIsLoadedInPlace
machine_in_place = λ given first rounds text memory sections verdict is_image frame lets sent has v.
    read_in_place given first rounds text memory sections verdict is_image sent.is_table sent.has_limit sent.are_rounds
    (machine_read (for_table first.table given) first.table rounds text frame lets refl sent) has v
