use Rattle.std.proofs.Common.{map}
use Rattle.std.specs.List.{range_with_len}
use Rattle.mig_assemble.specs.RoundList.{Adds}
use Rattle.mig_assemble.proofs.PacketParts.{normal_page_at}
use Rattle.mig_assemble.proofs.round_list.add_normal.Given as goal

abbrev pub invariant-loop-i : goal.invariant-loop-i
invariant-loop-i g l =
    Adds l.table.page_size l.fn.list.items l.list.items
    (map (normal_page_at l.table l.block l.packet.page_size l.packet.bytes.now) (range_with_len 0 l.i))
