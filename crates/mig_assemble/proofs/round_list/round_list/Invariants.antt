use Rattle.std.proofs.Common.{[], ◌++◌, take}
use Rattle.std.specs.List.{flat_map}
use Rattle.mig_packet.specs.declared.packet.Packet.{Packet}
use Rattle.mig_packet.specs.Lent.{fields}
use Rattle.mig_assemble.specs.Judging.{packet_pages}
use Rattle.mig_assemble.specs.Target.{pages_of_round}
use Rattle.mig_assemble.specs.RoundList.{Adds}
use Rattle.mig_assemble.proofs.round_list.round_list.Given as goal

abbrev pub invariant-loop-packet : goal.invariant-loop-packet
invariant-loop-packet g l =
    Adds l.table.page_size [] l.list.items (pages_of_round l.round ++ flat_map (λ (p : Packet). packet_pages l.table (fields p))
    (take l.packet-index l.packets))
