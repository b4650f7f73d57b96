-- Laws of the definitions alone.
use Rattle.std.specs.Prelude.{◌≡◌, ◌↔◌, ◌⊎◌, ℕ, List, Ok}
use Rattle.mig_xbzrle.specs.declared.fault.DeltaFault.{DeltaFault}
use Rattle.mig_xbzrle.specs.Delta.{Run, Spells, IsDelta, IsPageAfter}
use Rattle.mig_xbzrle.specs.Reading.{run_at, IsRun, IsFirstFault}

-- Bytes spell at most one list of runs.
abbrev pub HasOneReading : Type 0
HasOneReading = (delta : List ℕ) (runs others : List Run) → Spells runs delta → Spells others delta → runs ≡ others

-- Bytes spell a lawful delta, or they have a first fault.
abbrev pub HasReading : Type 0
HasReading = (size : ℕ) (delta : List ℕ) → ((runs : List Run) × Spells runs delta × IsDelta size runs) ⊎ ((fault : DeltaFault) × IsFirstFault size delta fault)

-- Bytes that spell a lawful delta have no fault.
abbrev pub LawfulIsFaultless : Type 0
LawfulIsFaultless = (size : ℕ) (delta : List ℕ) (runs : List Run) (fault : DeltaFault)
    → Spells runs delta → IsDelta size runs → IsFirstFault size delta fault → ⊥

-- Bytes have at most one first fault.
abbrev pub HasOneFault : Type 0
HasOneFault = (size : ℕ) (delta : List ℕ) (fault other : DeltaFault) → IsFirstFault size delta fault → IsFirstFault size delta other → fault ≡ other

-- A page has one page after some runs.
abbrev pub HasOnePageAfter : Type 0
HasOnePageAfter = (old : List ℕ) (runs : List Run) (new other : List ℕ) → IsPageAfter old runs new → IsPageAfter old runs other → new ≡ other

-- A run is read exactly where bytes begin with it and it is lawful there. So anything else is a fault.
abbrev pub ReadsLawfulRuns : Type 0
ReadsLawfulRuns = (len room : ℕ) (bytes : List ℕ) (r : Run) (more : List ℕ) → (run_at len room bytes ≡ Ok (r, more)) ↔ IsRun len room bytes r more
