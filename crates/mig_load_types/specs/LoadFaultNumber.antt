-- The numbers of the faults of a load, and of a piece that is put into a memory.
use Rattle.std.specs.Prelude.{ℕ}
use Rattle.mig_mem.specs.Refusal.{no_memory_number}
use Rattle.mig_stream.specs.FaultNumber.{fault_number as stream_fault_number}
use Rattle.mig_packet.specs.FaultNumber.{fault_number as channel_fault_number}
use Rattle.mig_assemble.specs.RoundFaultNumber.{fault_number as round_fault_number}
use Rattle.mig_load_types.specs.declared.fault.Fault.{Fault}
use Rattle.mig_load_types.specs.declared.fault.Fault.TheVariants.{Stream, Channel, Round, HelloTwice, Extra, Short, OtherTable, NoMemory}
use Rattle.mig_load_types.specs.declared.fault.InPlaceFault.{InPlaceFault}
use Rattle.mig_load_types.specs.declared.fault.InPlaceFault.TheVariants as in_place

abbrev pub fault_number : Fault → ℕ
fault_number (Stream fault) = stream_fault_number fault
fault_number (Channel fault) = channel_fault_number fault
fault_number (Round fault) = round_fault_number fault
fault_number HelloTwice = 51
fault_number Extra = 52
fault_number Short = 53
fault_number OtherTable = 63
fault_number NoMemory = no_memory_number

abbrev pub in_place_fault_number : InPlaceFault → ℕ
in_place_fault_number in_place.OtherTable = 63
in_place_fault_number in_place.NoMemory = no_memory_number
