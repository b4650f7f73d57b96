use Rattle.std.proofs.Common.{map, take}
use Rattle.mig_stream.specs.PageRecord.{page_of}
use Rattle.mig_assemble.specs.RoundList.{Adds}
use Rattle.mig_assemble.proofs.round_list.add_records.Given as goal

abbrev pub invariant-loop-i : goal.invariant-loop-i
invariant-loop-i g l = Adds l.round.page_size l.fn.list.items l.list.items (map (page_of l.round.page_size) (take l.i l.round.records))
