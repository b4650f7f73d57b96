-- Applying a round to the memory of a load: the memory before it, and why it may be refused.
use Rattle.std.specs.Prelude.{◌≡◌, ◌⊎◌, ℕ, Option, Some, Result, Ok, Err, ⊤}
use Rattle.mig_assemble.specs.declared.fault.RoundFault.{RoundFault}
use Rattle.mig_assemble.specs.Target.{LoadTarget}
use Rattle.mig_load_types.specs.declared.fault.Origin.TheVariants as origin
use Rattle.mig_load_types.specs.declared.fault.LoadFault.{LoadFault}
use Rattle.mig_single_load.specs.SingleLoad.{no_memory_at}
use Rattle.mig_answer.specs.Texts.{Readings}
use Rattle.mig_answer.specs.Rounds.{memory_at, named_at, base_at}
use Rattle.mig_load_types.specs.declared.fault.Fault.TheVariants as fault

-- the first k rounds are in the memory, and the places that they named are known
pub record HasLoaded (k : ℕ) (readings : Readings) (target : LoadTarget) : Type 0 where
  pub has_memory : memory_at k readings ≡ Some target.memory
  pub has_named : named_at k readings ≡ Some target.named
  pub has_rounds : target.rounds ≡ k
  pub has_base : target.base ≡ base_at k readings

-- an `Err` that a round has: `NoMemory`, or why it is refused
abbrev pub IsRoundError : ℕ → Option RoundFault → Result ⊤ LoadFault → Type 0
IsRoundError k refused (Ok x) = ⊤
IsRoundError k refused (Err found) = (Err found ≡ no_memory_at k)
    ⊎ ((why : RoundFault) × (refused ≡ Some why) × (found ≡ record { round = k; source = origin.Round; fault = fault.Round why }))
