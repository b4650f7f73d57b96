-- Bytes are read to an end byte exactly if a front of them is a stream.
use Rattle.std.proofs.Common.{◌≡◌, ℕ, ◌≤◌, ◌^◌, ◌<◌, List, Some, refl, sym, subst, inl, inr}
use Rattle.std.specs.Prelude.{All}
use Rattle.mig_mem.specs.PageSize.{IsPageSize}
use Rattle.mig_mem.specs.RamTable.{RamTable}
use Rattle.mig_stream.specs.declared.item.Frame.TheVariants.{Machine}
use Rattle.mig_stream.specs.declared.item.Mode.{Mode}
use Rattle.mig_stream.specs.PageRecord.{PageRecord}
use Rattle.mig_stream.specs.Reading.{settings, in_frame, IsReading}
use Rattle.mig_stream.specs.Law.{closed, HasText, SpelledIsRead, ReadIsSpelled, ClosedIsText, HasMachineRam, MachineClosedIsText}
use Rattle.mig_stream.proofs.SpelledText.{spelled_law}
use Rattle.mig_stream.proofs.Found.{read_law, machine_read_law}
use Rattle.mig_stream.proofs.SpelledMachine.{machine_is_read}
use Rattle.mig_stream.proofs.SpelledSnapshot.{snapshot_is_read}

-- what is read closed, of this table and these rounds, begins with a stream of them
text_of_closed : ReadIsSpelled → (mode : Mode) (limit : ℕ) (bytes : List ℕ) (table : RamTable) (rounds : List (List PageRecord))
    → IsPageSize table.page_size → limit ≤ 2 ^ 40
    → All (λ byte. byte < 2 ^ 8) bytes → IsReading (settings mode table.page_size limit) bytes (closed table rounds) → HasText mode limit bytes table rounds
text_of_closed law mode limit bytes table rounds size small all is =
    let found = law (settings mode table.page_size limit) bytes (closed table rounds) refl size small all is refl in
    let told : Some table ≡ Some found.0 = found.2 in
    let same : found.0 ≡ table = cc in
    subst (λ (x : RamTable). HasText mode limit bytes x rounds) same found.3

-- and bytes that begin with a stream are read closed
closed_of_text : SpelledIsRead → (mode : Mode) (limit : ℕ) (bytes : List ℕ) (table : RamTable) (rounds : List (List PageRecord))
    → HasText mode limit bytes table rounds
    → IsReading (settings mode table.page_size limit) bytes (closed table rounds)
closed_of_text law mode limit bytes table rounds is =
    subst (λ (x : List ℕ). IsReading (settings mode table.page_size limit) x (closed table rounds)) (sym is.2) (law mode limit is.0 is.1 table rounds is.3)

-- The two directions of the law give it as one.
pub closed_from_laws : SpelledIsRead → ReadIsSpelled → ClosedIsText
closed_from_laws spelled read mode limit bytes table rounds size small all =
    (text_of_closed read mode limit bytes table rounds size small all, closed_of_text spelled mode limit bytes table rounds)

-- Read closed, and beginning with a stream, is the same.
pub closed_law : ClosedIsText
closed_law = closed_from_laws spelled_law read_law

-- Bytes are read closed as a machine's stream exactly if they begin with one, or with a background
-- snapshot.
pub machine_closed_law : MachineClosedIsText
machine_closed_law mode limit bytes table rounds size small all = (to_text, of_text)
  where
    to_text : IsReading (in_frame Machine (settings mode table.page_size limit)) bytes (closed table rounds) → HasMachineRam mode limit bytes table rounds
    to_text is =
        let found = machine_read_law (in_frame Machine (settings mode table.page_size limit)) bytes (closed table rounds) refl size small all is refl in
        let told : Some table ≡ Some found.0 = found.2 in
        let same : found.0 ≡ table = cc in
        subst (λ (x : RamTable). HasMachineRam mode limit bytes x rounds) same found.3

    of_text : HasMachineRam mode limit bytes table rounds → IsReading (in_frame Machine (settings mode table.page_size limit)) bytes (closed table rounds)
    of_text (inl is) = subst (λ (x : List ℕ). IsReading (in_frame Machine (settings mode table.page_size limit)) x
        (closed table rounds)) (sym is.2) (machine_is_read mode limit is.0 is.1 table rounds is.3)
    of_text (inr is) = subst (λ (x : List ℕ). IsReading (in_frame Machine (settings mode table.page_size limit)) x
        (closed table rounds)) (sym is.2) (snapshot_is_read mode limit is.0 is.1 table rounds is.3)
