use Rattle.std.proofs.Common.{◌≡◌, map, take}
use Rattle.mig_mem.specs.Round.{with_round}
use Rattle.mig_stream.specs.PageRecord.{page_of}
use Rattle.mig_assemble.proofs.put.put_records.Given as goal

abbrev pub invariant-loop-i : goal.invariant-loop-i
invariant-loop-i g l =
    (g.M.GuestTarget.image l.memory ≡ with_round (g.M.GuestTarget.image l.fn.memory) (map (page_of l.round.page_size) (take l.i l.round.records)))
    × (g.M.GuestTarget.kept l.memory ≡ g.M.GuestTarget.kept l.fn.memory)
