-- What the verdict that sources give at a round says of the answer on streams so far.
use Rattle.std.proofs.Common.{refl, sym, ap, ◌∙◌, cond, inl, inr, arith}
use Rattle.std.specs.Prelude.{ℕ, ◌≡◌, ◌<◌, true, false, List, Option, None, Some, IsTrue, All, [], ◌∷◌, nat_lt, ◌==◌, IsFalse}
use Rattle.std.specs.Option.{option_map, unwrap_or}
use Rattle.std.specs.Bool.{then_some}
use Rattle.std.specs.List.{list_any}
use Rattle.std.proofs.lemmas.Bool.{cases_order, le-ltb, ne_eqb, cond-false}
use Rattle.mig_mem.specs.First.{first_some}
use Rattle.mig_mem.proofs.Lists.{then_none}
use Rattle.mig_assemble.specs.declared.fault.RoundFault.{RoundFault}
use Rattle.mig_load_types.specs.declared.fault.Origin.TheVariants as origin
use Rattle.mig_load_types.specs.declared.fault.Fault.TheVariants as fault
use Rattle.mig_answer.specs.declared.verdict.Verdict.{Verdict}
use Rattle.mig_answer.specs.declared.verdict.Verdict.TheVariants.{Running}
use Rattle.mig_answer.specs.Texts.{Readings}
use Rattle.mig_answer.specs.MultiLoad.{passes, main_at, channels_at, hello_ids, repeated_hello, sources_verdicts, failed, verdict_at, Standing, sources_at}
use Rattle.mig_answer.specs.declared.status.Status.{Status}
use Rattle.mig_answer.specs.declared.status.Status.TheVariants.{Whole, Pending}
use Rattle.mig_answer.specs.Status.{status_at, is_whole, is_pending}
use Rattle.mig_answer.proofs.Statuses.{status_end, passes_all, first_none}
use Rattle.mig_answer.proofs.Judged.{IsFinal}
use Rattle.mig_answer.specs.Rounds.{refusal_at}
use Rattle.mig_answer.proofs.Growing.{none_passes}
use Rattle.mig_answer.proofs.ToldSources.{AreWhole, told_at, round_told, told_first_some, none_told, first_behind}
use Rattle.mig_sources.specs.Due.{IsDue}

-- if there is no verdict no source is pending
settled_where_due : (k : ℕ) (m : Standing) (cs : List Standing) (repeated : Option ℕ)
    → first_some (sources_verdicts k m cs repeated) ≡ None → All IsFinal (m ∷ cs)
settled_where_due k m cs repeated none =
    none_passes (λ (s : Standing). is_pending s.status) (m ∷ cs) (then_none (list_any (λ (s : Standing). is_pending s.status) (m ∷ cs)) Running (first_none
    (then_some (list_any (λ (s : Standing). is_pending s.status) (m ∷ cs)) Running) (rest_of (sources_verdicts k m cs repeated)) none).0)
  where
    rest_of : List (Option Verdict) → List (Option Verdict)
    rest_of [] = []
    rest_of (o ∷ os) = os

-- and all have the round
pub due_sources : (k : ℕ) (readings : Readings) → IsDue k readings → AreWhole (sources_at k readings) × (repeated_hello (hello_ids readings) ≡ None)
due_sources k readings due =
    let settled = settled_where_due k (main_at k readings) (channels_at k readings) (repeated_hello (hello_ids readings)) due in
    let parts = none_told k (main_at k readings) (channels_at k readings) (repeated_hello (hello_ids readings)) settled due in
    (passes_all (λ (s : Standing). is_whole s.status) (sources_at k readings) parts.0, parts.1)

-- the round passes where it isn't refused
pub due_passes : (k : ℕ) (readings : Readings) → IsDue k readings → refusal_at k readings ≡ None → IsTrue (passes k readings)
due_passes k readings due lawful =
    let settled = settled_where_due k (main_at k readings) (channels_at k readings) (repeated_hello (hello_ids readings)) due in
    let parts = none_told k (main_at k readings) (channels_at k readings) (repeated_hello (hello_ids readings)) settled due in
    rw (parts.0, parts.1, lawful) refl

-- else the load ends there
pub due_refused : (k : ℕ) (readings : Readings) (f : RoundFault) → IsDue k readings → refusal_at k readings ≡ Some f
    → IsFalse (passes k readings) × (failed k origin.Round (fault.Round f) ≡ verdict_at k readings)
due_refused k readings f due refused =
    let settled = settled_where_due k (main_at k readings) (channels_at k readings) (repeated_hello (hello_ids readings)) due in
    let parts = none_told k (main_at k readings) (channels_at k readings) (repeated_hello (hello_ids readings)) settled due in
    let stops : passes k readings ≡ false = rw (parts.0, parts.1, refused) refl in
    let first = first_behind (told_at k readings) (round_told k readings) due
    ∙ ap (λ (o : Option RoundFault). first_some (option_map (λ (x : RoundFault). failed k origin.Round (fault.Round x)) o ∷ [])) refused in
    (stops, sym (ap (λ (o : Option Verdict). unwrap_or o Running) first))

-- a verdict of the sources is that at a round that doesn't pass
pub told_here : (k : ℕ) (readings : Readings) (v : Verdict) → Some v ≡ first_some (told_at k readings)
    → IsFalse (passes k readings) × (v ≡ verdict_at k readings)
told_here k readings v e =
    let found = told_first_some k readings v (sym e) in
    (found.0, sym (ap (λ (o : Option Verdict). unwrap_or o Running) found.1))

-- a source that is Whole at round k, and isn't so after its rounds, has more than k rounds
pub whole_below : (k n : ℕ) (end : Status) → is_whole end ≡ false → is_whole (status_at k n end) ≡ true → k < n
whole_below k n end other whole = elim (cases_order k n) [
  | inl same ↦ let f : is_whole (status_at k n end) ≡ false = ap is_whole (status_end k n end same) ∙ other in absurd cc
  | inr ne ↦ elim ne [
    | inl lt ↦ lt
    | inr gt ↦
        let pending : status_at k n end ≡ Pending =
        cond-false (nat_lt k n) Whole (cond (k == n) end Pending) (le-ltb k n (omega (arith, gt)))
        ∙ cond-false (k == n) end Pending (ne_eqb k n (λ e. omega (arith, e, gt))) in
        let f : is_whole (status_at k n end) ≡ false = ap is_whole pending in absurd cc
  ]
]
