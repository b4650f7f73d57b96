-- Faults in the order in which they are tested.
use Rattle.std.specs.Prelude.{Bool, if◌then◌else◌, List, [], ◌∷◌, Option, Some, None}
use Rattle.mig_packet.specs.declared.fault.ChannelFault.{ChannelFault}

-- the fault of the first test that holds
abbrev pub first_of : List (Bool × ChannelFault) → Option ChannelFault
first_of [] = None
first_of (test ∷ tests) = if test.0 then Some test.1 else first_of tests
