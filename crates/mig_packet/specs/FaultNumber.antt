-- The numbers of the faults of a channel.
use Rattle.std.specs.Prelude.{ℕ}
use Rattle.mig_packet.specs.declared.fault.ChannelFault.{ChannelFault}
use Rattle.mig_packet.specs.declared.fault.ChannelFault.TheVariants as fault

abbrev pub fault_number : ChannelFault → ℕ
fault_number fault.HelloMagic = 35
fault_number fault.HelloVersion = 36
fault_number fault.HelloUuid = 37
fault_number fault.HelloId = 38
fault_number fault.PacketMagic = 39
fault_number fault.PacketVersion = 40
fault_number (fault.PacketFlags flags) = 41
fault_number fault.PageCount = 42
fault_number fault.PacketSize = 43
fault_number fault.Truncated = 44
fault_number fault.Unsynced = 45
fault_number fault.Waiting = 65

abbrev pub no_memory_number : ℕ
no_memory_number = 60
