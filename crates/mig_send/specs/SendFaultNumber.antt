-- The numbers of a sender's faults.
use Rattle.std.specs.Prelude.{ℕ}
use Rattle.mig_mem.specs.Refusal.{no_memory_number}
use Rattle.mig_send.specs.declared.fault.SendFault.{SendFault}
use Rattle.mig_send.specs.declared.fault.SendFault.TheVariants.{Channels, Limit, OtherTable, NoMemory}

abbrev pub fault_number : SendFault → ℕ
fault_number Channels = 61
fault_number Limit = 62
fault_number OtherTable = 63
fault_number NoMemory = no_memory_number
