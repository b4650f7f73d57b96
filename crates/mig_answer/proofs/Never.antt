-- Which verdicts a round doesn't have, and where all sources are clean.
use Rattle.std.proofs.Common.{ℕ, ◌≡◌, ◌≢◌, ◌+◌, Bool, true, false, cond, List, [], ◌∷◌, map, Option, Some, None, refl, sym, ap, ◌∙◌, inl, inr}
use Rattle.std.specs.Prelude.{◌⊎◌}
use Rattle.std.specs.Bool.{then_some}
use Rattle.std.specs.Option.{unwrap_or, option_map}
use Rattle.std.specs.List.{All, list_all, list_any, find, enumerate_from}
use Rattle.std.proofs.lemmas.Bool.{cases_Bool}
use Rattle.std.proofs.lemmas.List.Elements.{All-nil, All-cons, All-head, All-tail, All-append}
use Rattle.mig_mem.specs.First.{first_some}
use Rattle.mig_packet.specs.Reading.{ChannelReading}
use Rattle.mig_assemble.specs.declared.fault.RoundFault.{RoundFault}
use Rattle.mig_load_types.specs.declared.fault.Origin.{Origin}
use Rattle.mig_load_types.specs.declared.fault.Origin.TheVariants as origin
use Rattle.mig_load_types.specs.declared.fault.Fault.{Fault}
use Rattle.mig_load_types.specs.declared.fault.Fault.TheVariants as fault
use Rattle.mig_load_types.specs.declared.fault.LoadFault.{LoadFault}
use Rattle.mig_answer.specs.declared.verdict.Verdict.{Verdict}
use Rattle.mig_answer.specs.declared.verdict.Verdict.TheVariants.{Running, Done, Failed}
use Rattle.mig_answer.specs.declared.status.Status.{Status}
use Rattle.mig_answer.specs.Status.{channel_status, is_whole, is_clean, is_pending, fault_of}
use Rattle.mig_answer.specs.Texts.{Readings}
use Rattle.mig_answer.specs.Rounds.{refusal_at}
use Rattle.mig_answer.specs.MultiLoad.{Standing, main_at, channels_at, sources_at, hello_ids, repeated_hello, sources_verdicts, verdicts_at, verdict_at, failed}
use Rattle.mig_answer.specs.MultiLoad.{failed_at_first, failed_with_own}
use Rattle.mig_answer.proofs.Statuses.{first_is}

-- equal failed verdicts have equal faults
pub same_found : (a b : LoadFault) → Failed a ≡ Failed b → a ≡ b
same_found a b e = cc

-- it is a source's
abbrev IsOfSource : Standing → Type 0
IsOfSource s = s.source ≢ origin.Round

abbrev standing_at : ℕ → (ℕ × ChannelReading) → Standing
standing_at k c = record { source = origin.Channel c.0; status = channel_status k c.1 }

channels_of_sources : (k n : ℕ) (channels : List ChannelReading) → All IsOfSource (map (standing_at k) (enumerate_from n channels))
channels_of_sources k n [] = All-nil IsOfSource
channels_of_sources k n (c ∷ channels) =
    All-cons IsOfSource (standing_at k (n, c)) (map (standing_at k) (enumerate_from (n + 1) channels)) (λ e. absurd cc) (channels_of_sources k (n + 1) channels)

all_of_sources : (k : ℕ) (readings : Readings) → All IsOfSource (sources_at k readings)
all_of_sources k readings = All-cons IsOfSource (main_at k readings) (channels_at k readings) (λ e. absurd cc) (channels_of_sources k 0 readings.channels)

-- no verdict at round k is this one, where neither running is it, nor a failure of a source, nor
-- one with another fault than NoMemory
module _ (that : Verdict) (k : ℕ) (running : Running ≢ that) (fails : (from : Origin) (f : Fault)
    → (from ≢ origin.Round) ⊎ (f ≢ fault.NoMemory) → failed k from f ≢ that) where
  abbrev IsOther : Option Verdict → Type 0
  IsOther o = (v : Verdict) → o ≡ Some v → v ≢ that

  other_none : IsOther None
  other_none v e d = absurd cc

  other_some : (v : Verdict) → v ≢ that → IsOther (Some v)
  other_some v differs w e d = differs (let same : v ≡ w = cc in same ∙ d)

  other_then : (b : Bool) (v : Verdict) → (b ≡ true → v ≢ that) → IsOther (then_some b v)
  other_then true v differs = other_some v (differs refl)
  other_then false v differs = other_none

  other_map : {X : Type 0} (f : X → Verdict) (o : Option X) → ((x : X) → f x ≢ that) → IsOther (option_map f o)
  other_map f None differ = other_none
  other_map f (Some x) differ = other_some (f x) (differ x)

  other_if : (b : Bool) (o : Option Verdict) → IsOther o → IsOther (cond b o None)
  other_if true o other = other
  other_if false o other = other_none

  other_own : (sources : List Standing) → All IsOfSource sources → All IsOther (map (failed_with_own k) sources)
  other_own [] of_sources = All-nil IsOther
  other_own (s ∷ sources) of_sources =
      All-cons IsOther (failed_with_own k s) (map (failed_with_own k) sources)
      (other_map (failed k s.source) (fault_of s.status) (λ f. fails s.source f (inl (All-head IsOfSource s sources of_sources))))
      (other_own sources (All-tail IsOfSource s sources of_sources))

  other_first : (test : Status → Bool) (f : Fault) (sources : List Standing) → f ≢ fault.NoMemory → IsOther (failed_at_first k test f sources)
  other_first test f sources other = other_map (λ (s : Standing). failed k s.source f)
      (find (λ (s : Standing). test s.status) sources) (λ s. fails s.source f (inr other))

  others_told : (m : Standing) (cs : List Standing) (repeated : Option ℕ) → All IsOfSource (m ∷ cs)
      → (list_all (λ (s : Standing). is_clean s.status) (m ∷ cs) ≡ true → Done ≢ that)
      → All IsOther (sources_verdicts k m cs repeated)
  others_told m cs repeated of_sources done =
      let a1 : Option Verdict = then_some (list_any (λ (s : Standing). is_pending s.status) (m ∷ cs)) Running in
      let a2 : Option Verdict = first_some (map (failed_with_own k) (m ∷ cs)) in
      let a3 : Option Verdict = option_map (λ j. failed k (origin.Channel j) fault.HelloTwice) repeated in
      let a4 : Option Verdict = then_some (list_all (λ (s : Standing). is_clean s.status) (m ∷ cs)) Done in
      let a5 : Option Verdict = cond (is_clean m.status) (failed_at_first k is_whole fault.Extra cs) None in
      let a6 : Option Verdict = cond (is_whole m.status) (failed_at_first k is_clean fault.Short cs) None in
      All-cons IsOther a1 (a2 ∷ a3 ∷ a4 ∷ a5 ∷ a6 ∷ []) (other_then (list_any (λ (s : Standing). is_pending s.status) (m ∷ cs)) Running (λ _. running)) (
      All-cons IsOther a2 (a3 ∷ a4 ∷ a5 ∷ a6 ∷ [])
      (λ v e. first_is (λ (x : Verdict). x ≢ that) (map (failed_with_own k) (m ∷ cs)) v (other_own (m ∷ cs) of_sources) e) (
      All-cons IsOther a3 (a4 ∷ a5 ∷ a6 ∷ []) (other_map (λ j. failed k (origin.Channel j) fault.HelloTwice) repeated
      (λ j. fails (origin.Channel j) fault.HelloTwice (inr (λ e. absurd cc)))) (
      All-cons IsOther a4 (a5 ∷ a6 ∷ []) (other_then (list_all (λ (s : Standing). is_clean s.status) (m ∷ cs)) Done done) (
      All-cons IsOther a5 (a6 ∷ []) (other_if (is_clean m.status) (failed_at_first k is_whole fault.Extra cs)
      (other_first is_whole fault.Extra cs (λ e. absurd cc))) (
      All-cons IsOther a6 [] (other_if (is_whole m.status) (failed_at_first k is_clean fault.Short cs)
      (other_first is_clean fault.Short cs (λ e. absurd cc))) (All-nil IsOther))))))

  other_or_running : (o : Option Verdict) → IsOther o → unwrap_or o Running ≢ that
  other_or_running None other = running
  other_or_running (Some v) other = other v refl

  never : (readings : Readings) → (list_all (λ (s : Standing). is_clean s.status) (sources_at k readings) ≡ true → Done ≢ that) → verdict_at k readings ≢ that
  never readings done =
      let told : List (Option Verdict) = sources_verdicts k (main_at k readings) (channels_at k readings) (repeated_hello (hello_ids readings)) in
      let last : Option Verdict = option_map (λ f. failed k origin.Round (fault.Round f)) (refusal_at k readings) in
      let all : All IsOther (verdicts_at k readings) =
      All-append IsOther told (last ∷ []) (others_told (main_at k readings) (channels_at k readings)
      (repeated_hello (hello_ids readings)) (all_of_sources k readings) done)
      (All-cons IsOther last [] (other_map (λ (f : RoundFault). failed k origin.Round (fault.Round f)) (refusal_at k readings)
      (λ f. fails origin.Round (fault.Round f) (inr (λ e. absurd cc)))) (All-nil IsOther)) in
      other_or_running (first_some (verdicts_at k readings)) (λ v e. first_is (λ (x : Verdict). x ≢ that) (verdicts_at k readings) v all e)

-- it is done only where all sources are clean
pub done_is_clean : (k : ℕ) (readings : Readings) → verdict_at k readings ≡ Done → list_all (λ (s : Standing). is_clean s.status) (sources_at k readings) ≡ true
done_is_clean k readings done = elim (cases_Bool (list_all (λ (s : Standing). is_clean s.status) (sources_at k readings))) [
  | inl t ↦ t
  | inr f ↦ absurd (never Done k (λ e. absurd cc) (λ from g other e. absurd cc) readings (λ t. absurd (let clash : true ≡ false = sym t ∙ f in cc)) done)
]

-- it is never that of a refused allocation
pub never_refused : (k n : ℕ) (readings : Readings) → verdict_at k readings ≢ failed n origin.Round fault.NoMemory
never_refused k n readings =
    never (failed n origin.Round fault.NoMemory) k (λ e. absurd cc) (λ from f other e.
    let same = same_found (record { round = k; source = from; fault = f }) (record { round = n; source = origin.Round; fault = fault.NoMemory }) e in
    elim other [
      | inl differs ↦ differs (ap (λ (x : LoadFault). x.source) same)
      | inr differs ↦ differs (ap (λ (x : LoadFault). x.fault) same)
    ]) readings (λ _ e. absurd cc)
