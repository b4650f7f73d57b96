-- A stream that was fed whole to a loader in place.
use Rattle.std.proofs.Common.{ℕ, ◌≡◌, ◌≤◌, List, subst, true}
use Rattle.std.specs.Prelude.{All, Result, Ok, Err, ⊤}
use Rattle.mig_mem.specs.Image.{Page, Image}
use Rattle.mig_mem.specs.Round.{IsRound, with_rounds}
use Rattle.mig_stream.specs.Text.{total_bytes}
use Rattle.mig_stream.specs.Written.{single}
use Rattle.mig_load_types.specs.declared.fault.LoadFault.{LoadFault}
use Rattle.mig_load_types.specs.Settings.{ram_settings}
use Rattle.mig_single_load.specs.InPlace.{HasRecordsOnto, HasVerdictOnto}
use Rattle.mig_single_load.specs.LoadInPlace.{InPlace, LoadsOnto}
use Rattle.mig_single_load.proofs.LoadsInPlace.{sent_in_place}

-- the stream of a sender is in the memory, and the verdict is Ok
pub loaded_onto : (limit : ℕ) (first : Image) (l : InPlace) (text : List ℕ) (verdict : Result ⊤ LoadFault)
    → LoadsOnto (ram_settings first.table.page_size limit) first l text true → HasVerdictOnto (ram_settings first.table.page_size limit) first text verdict
    → (rounds : List (List Page)) → total_bytes first.table ≤ limit → All (IsRound first.table) rounds → text ≡ single first.table rounds
    → (l.memory ≡ with_rounds first rounds) × (verdict ≡ Ok _)
loaded_onto limit first l text verdict loads told rounds room are is =
    let all = sent_in_place limit first rounds l.memory l.load.rounds verdict loads.is_table loads.is_image room are
    (subst (λ (t : List ℕ). HasRecordsOnto (ram_settings first.table.page_size limit) first t l.memory l.load.rounds) is loads.stands.has_records)
    (subst (λ (t : List ℕ). HasVerdictOnto (ram_settings first.table.page_size limit) first t verdict) is told) in
    (all.0, all.2)

-- no verdict is both Ok and an error
pub never_err : (verdict : Result ⊤ LoadFault) (fault : LoadFault) → verdict ≡ Err fault → verdict ≡ Ok _ → ⊥
never_err verdict fault bad good = absurd cc
