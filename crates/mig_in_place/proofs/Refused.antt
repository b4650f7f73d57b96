-- A load that stands for texts doesn't have the verdict of a refused allocation.
use Rattle.std.proofs.Common.{ℕ, ◌≡◌, ◌≢◌, sym, ap, ◌∙◌, inl, inr}
use Rattle.mig_mem.specs.Image.{Image}
use Rattle.mig_load_types.specs.declared.fault.Origin.TheVariants as origin
use Rattle.mig_load_types.specs.declared.fault.Fault.TheVariants as fault
use Rattle.mig_load_types.specs.declared.fault.LoadFault.{LoadFault}
use Rattle.mig_answer.specs.MultiLoad.{failed}
use Rattle.mig_in_place.specs.Session.{InPlaceLoad, Loading, Stands}
use Rattle.mig_answer.proofs.Never.{same_found, never_refused}
use Rattle.mig_in_place.proofs.Done.{own_or_other}

other_fault : (k n : ℕ) → failed k origin.Main fault.OtherTable ≢ failed n origin.Round fault.NoMemory
other_fault k n e =
    let same = same_found (record { round = k; source = origin.Main; fault = fault.OtherTable })
    (record { round = n; source = origin.Round; fault = fault.NoMemory }) e in
    absurd (let clash : origin.Main ≡ origin.Round = ap (λ (x : LoadFault). x.source) same in cc)

-- a load that stands as its readings say has not failed in a round for want of memory
pub stands_found : (f : Loading) (memory : Image) (s : InPlaceLoad) (n : ℕ) → Stands f memory s → s.verdict ≢ failed n origin.Round fault.NoMemory
stands_found f memory s n stands e = elim (own_or_other f.first stands.is_answer.readings.main) [
  | inl own ↦ never_refused s.rounds n stands.is_answer.readings (sym (stands.is_answer.own own).has_verdict ∙ e)
  | inr other ↦ other_fault 0 n (sym (stands.is_answer.other other).has_verdict ∙ e)
]
