-- What a load of a sent stream returns: the memory, or `NoMemory`.
use Rattle.std.proofs.Common.{ℕ, ◌≡◌, ◌≤◌, List, refl, sym, ap, ◌∙◌, inl, inr, Option, Some, None}
use Rattle.std.specs.Prelude.{◌⊎◌, All, IfSome, Result, Ok, Err, IsErr, IsErrAnd, MatchResult, ⊤}
use Rattle.mig_mem.specs.RamTable.{RamTable, IsTable}
use Rattle.mig_mem.specs.Image.{Page, Image}
use Rattle.mig_mem.specs.Round.{IsRound, after}
use Rattle.mig_stream.specs.Text.{total_bytes}
use Rattle.mig_stream.specs.Written.{single}
use Rattle.mig_load_types.specs.declared.loaded.Loaded.{Loaded}
use Rattle.mig_load_types.specs.declared.fault.LoadFault.{LoadFault}
use Rattle.mig_load_types.specs.declared.fault.Fault.TheVariants as fault
use Rattle.mig_load_types.specs.Settings.{ram_settings}
use Rattle.mig_single_load.specs.SingleLoad.{IsSingleWithoutMemory, HasLoadedRounds}
use Rattle.mig_answer.specs.declared.verdict.Verdict.TheVariants.{Done, Failed}
use Rattle.mig_answer.specs.Texts.{Texts}
use Rattle.mig_answer.specs.MultiLoad.{Answer, as_verdict, answer_of, IsWithoutMemory as LacksMemory}
use Rattle.mig_answer.specs.Sent.{sent_rounds, sent_answer}
use Rattle.mig_send.specs.DealtRounds.{DealtRound}
use Rattle.mig_uses.specs.Backup.{BringsMemory}

-- the memory is there, and the load is Ok
abbrev pub HasLoaded : {A : Type 0} → Image → Loaded A → Type 0
HasLoaded m a = (a.memory ≡ Some m) × (a.verdict ≡ Ok _)

-- an allocation was refused
abbrev pub HasWanted : {A : Type 0} → Loaded A → Type 0
HasWanted a = (e : LoadFault) × (a.verdict ≡ Err e) × (e.fault ≡ fault.NoMemory)

-- what `load_single` says of the single stream of rounds
abbrev pub LoadsSingle : {A : Type 0} → ℕ → ℕ → List ℕ → Loaded A → Type 0
LoadsSingle page_size limit text a = (table : RamTable) (rounds : List (List Page)) → IsTable table → table.page_size ≡ page_size → total_bytes table ≤ limit
    → All (IsRound table) rounds → text ≡ single table rounds → HasLoadedRounds table rounds a ⊎ IsSingleWithoutMemory (ram_settings page_size limit) text a

-- a load of a stream that brings a memory, whose table is within the limit, has loaded it, or was
-- refused an allocation
pub brought : {A : Type 0} (page_size limit : ℕ) (text : List ℕ) (a : Loaded A) (m : Image) → LoadsSingle page_size limit text a → IsTable m.table
    → m.table.page_size ≡ page_size → total_bytes m.table ≤ limit → BringsMemory m text → HasLoaded m a ⊎ HasWanted a
brought page_size limit text a m loads is size room brings = elim (loads m.table brings.rounds is size room brings.are_rounds brings.is_text) [
  | inl all ↦ inl (
    all.has_memory ∙ ap (λ (i : Image). let some : Option Image = Some i in some) brings.leave_memory,
    all.has_verdict,
  )
  | inr want ↦ inr (_, want.has_verdict, refl)
]

-- ---- the cases of a verdict and a memory

-- if a load that has loaded a memory, or was refused an allocation, is an error, it is NoMemory
pub wanted : {A : Type 0} (a : Loaded A) (m : Image) (e : LoadFault) → HasLoaded m a ⊎ HasWanted a → a.verdict ≡ Err e → e.fault ≡ fault.NoMemory
wanted a m e (inl all) bad = let good = all.1 in absurd cc
wanted a m e (inr want) bad = let found = want.1 in let same : want.0 ≡ e = cc in ap (λ (f : LoadFault). f.fault) (sym same) ∙ want.2

-- if a load that has loaded `m`, or was refused an allocation, is Ok, its memory is `m`
pub there : {A : Type 0} (a : Loaded A) (m memory : Image) (v : ⊤) → HasLoaded m a ⊎ HasWanted a → a.verdict ≡ Ok v → a.memory ≡ Some memory → memory ≡ m
there a m memory v (inl all) good is = let some = all.0 in cc
there a m memory v (inr want) good is = let bad = want.1 in absurd cc

-- what is there, if the verdict is Ok
pub there_or_none : {A : Type 0} (a : Loaded A) (m : Image) (v : ⊤) → HasLoaded m a ⊎ HasWanted a → a.verdict ≡ Ok v → IfSome a.memory (λ memory. memory ≡ m)
there_or_none a m v (inl all) good = rw all.0 refl
there_or_none a m v (inr want) good = let bad = want.1 in absurd cc

-- if a load that has loaded a memory, or was refused an allocation, is Ok, it has a memory
pub never_none : {A : Type 0} (a : Loaded A) (m : Image) (v : ⊤) → HasLoaded m a ⊎ HasWanted a → a.verdict ≡ Ok v → a.memory ≡ None → ⊥
never_none a m v (inl all) good is = let some = all.0 in cc
never_none a m v (inr want) good is = let bad = want.1 in cc

-- ---- several channels

verdict_done : (v : Result ⊤ LoadFault) → as_verdict v ≡ Done → v ≡ Ok _
verdict_done (Ok x) is = refl
verdict_done (Err f) is = absurd cc

verdict_failed : (v : Result ⊤ LoadFault) (f : LoadFault) → as_verdict v ≡ Failed f → v ≡ Err f
verdict_failed (Ok x) f is = absurd cc
verdict_failed (Err g) f is = let same : g ≡ f = cc in ap (λ (e : LoadFault). let failed : Result ⊤ LoadFault = Err e in failed) same

-- an answer with all rounds sent, or without memory, has loaded the memory after these rounds, or
-- was refused an allocation
pub arrived : {A : Type 0} (page_size : ℕ) (uuid : List ℕ) (limit : ℕ) (texts : Texts) (a : Loaded A) (table : RamTable) (rounds : List DealtRound)
    → (answer_of a ≡ sent_answer table rounds) ⊎ LacksMemory (ram_settings page_size limit) uuid texts (answer_of a)
    → HasLoaded (after table (sent_rounds rounds)) a ⊎ HasWanted a
arrived page_size uuid limit texts a table rounds (inl all) =
    inl (ap (λ (x : Answer). x.memory) all, verdict_done a.verdict (ap (λ (x : Answer). x.verdict) all))
arrived page_size uuid limit texts a table rounds (inr want) = inr (_, verdict_failed a.verdict _ want.has_verdict, refl)

-- the error that a load gave is passed on
pub passed_on : {A T : Type 0} (a : Loaded A) (m : Image) (e : LoadFault) (r : Result T LoadFault) (P : T → Type 0)
    → HasLoaded m a ⊎ HasWanted a → a.verdict ≡ Err e
    → IsErr r × IsErrAnd r (λ x. x ≡ e) → MatchResult r P (λ x. x.fault ≡ fault.NoMemory)
passed_on a m e (Ok x) P answer bad is = absurd is.1
passed_on a m e (Err f) P answer bad is = ap (λ (x : LoadFault). x.fault) is.1 ∙ wanted a m e answer bad
