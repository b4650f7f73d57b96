-- The numbers of the faults of a pump.
use Rattle.std.specs.Prelude.{ℕ}
use Rattle.mig_mem.specs.Refusal.{no_memory_number}
use Rattle.mig_session.specs.declared.pumping.PumpFault.{PumpFault}
use Rattle.mig_session.specs.declared.pumping.PumpFault.TheVariants as pump

abbrev pub pump_fault_number : PumpFault → ℕ
pump_fault_number pump.Read = 70
pump_fault_number pump.TooManyTurns = 71
pump_fault_number pump.NoMemory = no_memory_number
