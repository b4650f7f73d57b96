-- The numbers of the faults of a file with mapped-ram. Those of a size list are those of a stream.
use Rattle.std.specs.Prelude.{ℕ}
use Rattle.mig_mapped.specs.declared.fault.MappedFault.{MappedFault}
use Rattle.mig_mapped.specs.declared.fault.MappedFault.TheVariants as fault

abbrev pub fault_number : MappedFault → ℕ
fault_number fault.Id = 21
fault_number fault.IdTwice = 22
fault_number fault.Length = 23
fault_number fault.TooManyBlocks = 24
fault_number fault.SizeSum = 25
fault_number fault.Truncated = 34
fault_number fault.HeaderVersion = 72
fault_number fault.HeaderPageSize = 73
fault_number fault.BitmapOffset = 74
fault_number fault.PagesOffset = 75
fault_number fault.BitmapTail = 76
