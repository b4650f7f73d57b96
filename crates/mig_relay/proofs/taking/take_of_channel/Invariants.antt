use Rattle.std.proofs.Common.{◌≡◌, ◌++◌, List}
use Rattle.mig_packet.specs.declared.packet.Packet.{Packet}
use Rattle.mig_relay.proofs.GoneThrough.{Going}
use Rattle.mig_relay.proofs.taking.take_of_channel.Given as goal

abbrev pub invariant-loop : goal.invariant-loop
invariant-loop g l = (packets : List Packet) × (l.gathered ≡ l.fn.gathered ++ packets) × Going l.fn.j l.fn.at l.fn.collector l.collector l.at packets
