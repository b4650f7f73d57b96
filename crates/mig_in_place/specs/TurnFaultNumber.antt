-- The numbers of the faults of a turn.
use Rattle.std.specs.Prelude.{ℕ}
use Rattle.mig_mem.specs.Refusal.{no_memory_number}
use Rattle.mig_in_place.specs.declared.source_reader.TurnFault.{TurnFault}
use Rattle.mig_in_place.specs.declared.source_reader.TurnFault.TheVariants as fault

abbrev pub turn_fault_number : TurnFault → ℕ
turn_fault_number fault.Read = 70
turn_fault_number fault.OtherTable = 63
turn_fault_number fault.NoMemory = no_memory_number
