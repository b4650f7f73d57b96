-- The numbers of a round's refusals.
use Rattle.std.specs.Prelude.{ℕ}
use Rattle.mig_mem.specs.Refusal.{no_memory_number}
use Rattle.mig_assemble.specs.declared.fault.RoundFault.{RoundFault}
use Rattle.mig_assemble.specs.declared.fault.RoundFault.TheVariants.{Foreign, Doubled, Missing, UnknownBlock, Offset, DoublePage, NoMemory}

abbrev pub fault_number : RoundFault → ℕ
fault_number (Foreign number) = 54
fault_number (Doubled number) = 55
fault_number (Missing number) = 56
fault_number (UnknownBlock number) = 57
fault_number (Offset number i) = 58
fault_number (DoublePage place) = 59
fault_number NoMemory = no_memory_number
