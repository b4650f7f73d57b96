-- A single stream on top of memory that exists already: whose table it has, and what a sender's is.
use Rattle.std.proofs.Common.{ℕ, ◌≡◌, ◌≤◌, ◌+◌, List, [], ◌∷◌, ◌++◌, length, map, sym, ap, ◌∙◌, inl, inr, Some, None, subst}
use Rattle.std.specs.Prelude.{⊤, Result, Ok, All}
use Rattle.std.proofs.lemmas.List.{map-append, append-nil}
use Rattle.mig_mem.specs.RamTable.{RamTable, IsTable}
use Rattle.mig_mem.specs.Image.{Page, Image}
use Rattle.mig_mem.specs.Round.{IsRound, with_round, with_rounds}
use Rattle.mig_stream.specs.declared.item.Mode.TheVariants.{Single}
use Rattle.mig_stream.specs.PageRecord.{PageRecord, page_of}
use Rattle.mig_stream.specs.Reading.{Settings, StreamReading, IsReading}
use Rattle.mig_stream.specs.Text.{total_bytes}
use Rattle.mig_stream.specs.Written.{written_record, single}
use Rattle.mig_stream.specs.Law.{closed}
use Rattle.mig_stream.proofs.SpelledText.{spelled_law}
use Rattle.mig_stream.proofs.WrittenText.{written_single}
use Rattle.mig_load_types.specs.Settings.{ram_settings}
use Rattle.mig_load_types.specs.declared.settings.LoadSettings.{LoadSettings}
use Rattle.mig_load_types.specs.declared.fault.LoadFault.{LoadFault}
use Rattle.mig_single_load.specs.SingleLoad.{verdict_of}
use Rattle.mig_single_load.specs.InPlace.{settings_of, IsOfOtherTable, IsOfOwnTable, HasSectionsOnto, HasVerdictOnto}
use Rattle.mig_single_load.proofs.Sections.{pages_in, same_reading, empty_ends, pages_sent, counted}

-- ---- whose table a stream has

-- not both
pub apart : (first : Image) (reading : StreamReading) → IsOfOwnTable first reading → IsOfOtherTable first reading → ⊥
apart first reading (inl none) other = absurd (let both : Some other.0 ≡ None = sym other.1 ∙ none in cc)
apart first reading (inr own) other = other.2 (let both : Some other.0 ≡ Some first.table = sym other.1 ∙ own in cc)

-- ---- the stream of a sender

-- what it reads as
sent_reading : (limit : ℕ) (first : Image) (rounds : List (List Page)) (reading : StreamReading) → IsTable first.table
    → total_bytes first.table ≤ limit → All (IsRound first.table) rounds
    → IsReading (settings_of first (ram_settings first.table.page_size limit)) (single first.table rounds) reading
    → reading ≡ closed first.table ([] ∷ map (map written_record) rounds ++ [] ∷ [])
sent_reading limit first rounds reading is room all is_reading =
    let table : RamTable = first.table in
    let load : LoadSettings = ram_settings table.page_size limit in
    let given : Settings = settings_of first load in
    let text : List ℕ = single table rounds in
    let sections : List (List PageRecord) = [] ∷ map (map written_record) rounds ++ [] ∷ [] in
    let read : IsReading given text (closed table sections) =
    subst (λ x. IsReading given x (closed table sections)) (append-nil text)
    (spelled_law Single limit text [] table sections (written_single table rounds limit is room all)) in
    same_reading load text reading (closed table sections) is.has_page_size is_reading read

-- the verdict on it
pub sent_verdict : (limit : ℕ) (first : Image) (rounds : List (List Page)) (verdict : Result ⊤ LoadFault) → IsTable first.table
    → total_bytes first.table ≤ limit → All (IsRound first.table) rounds
    → HasVerdictOnto (ram_settings first.table.page_size limit) first (single first.table rounds) verdict → verdict ≡ Ok _
sent_verdict limit first rounds verdict is room all v =
    let one = sent_reading limit first rounds v.reading is room all v.is_reading in
    v.own (inr (ap (λ (x : StreamReading). x.table) one)) ∙ ap (λ (x : StreamReading). verdict_of (length x.rounds) x.state) one

-- its complete sections in a memory
pub sent_sections : (limit : ℕ) (first : Image) (rounds : List (List Page)) (memory : Image) (sections : ℕ) → IsTable first.table
    → total_bytes first.table ≤ limit → All (IsRound first.table) rounds
    → HasSectionsOnto (ram_settings first.table.page_size limit) first (single first.table rounds) memory sections
    → (memory ≡ with_rounds first rounds) × (sections ≡ length rounds + 2)
sent_sections limit first rounds memory sections is room all onto =
    let table : RamTable = first.table in
    let p : ℕ = table.page_size in
    let one = sent_reading limit first rounds onto.reading is room all onto.is_reading in
    let both = onto.own (inr (ap (λ (x : StreamReading). x.table) one)) in
    let records : List (List PageRecord) = map (map written_record) rounds in (
      both.0
          ∙ ap (λ (x : StreamReading). with_rounds first (pages_in p x.rounds)) one
          ∙ ap (λ (l : List (List Page)). with_rounds first l) (map-append (map (page_of p)) ([] ∷ records) ([] ∷ []))
          ∙ ap (λ (l : List (List Page)). with_rounds first ([] ∷ l ++ [] ∷ [])) (pages_sent table rounds all)
          ∙ ap (λ (l : List Page). with_round first l) (empty_ends rounds),
      both.1 ∙ ap (λ (x : StreamReading). length x.rounds) one ∙ counted rounds,
    )
