-- The numbers of the faults of a stream.
use Rattle.std.specs.Prelude.{ℕ}
use Rattle.mig_stream.specs.declared.fault.StreamFault.{StreamFault}
use Rattle.mig_stream.specs.declared.fault.StreamFault.TheVariants as fault

abbrev pub fault_number : StreamFault → ℕ
fault_number fault.Magic = 11
fault_number fault.Version = 12
fault_number fault.SectionType = 13
fault_number fault.SectionName = 14
fault_number fault.Instance = 15
fault_number fault.RamVersion = 16
fault_number fault.SectionId = 17
fault_number fault.Footer = 18
fault_number fault.ConfigLength = 19
fault_number fault.Total = 20
fault_number fault.Id = 21
fault_number fault.IdTwice = 22
fault_number fault.Length = 23
fault_number fault.TooManyBlocks = 24
fault_number fault.SizeSum = 25
fault_number fault.SizePlace = 26
fault_number (fault.Flags flags) = 27
fault_number fault.NoBlock = 28
fault_number fault.UnknownBlock = 29
fault_number fault.OffsetOut = 30
fault_number (fault.Fill byte) = 31
fault_number fault.Flush = 32
fault_number fault.Tail = 33
fault_number fault.Truncated = 34
fault_number fault.Subsection = 46
fault_number fault.Capability = 47
fault_number fault.PageBits = 48
fault_number fault.Command = 49
fault_number fault.Waiting = 64
