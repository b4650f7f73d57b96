use Rattle.std.proofs.Common.{◌≡◌, ◌++◌, take}
use Rattle.mig_send.specs.Packing.{contents_at}
use Rattle.mig_send.proofs.packed.append_contents.Given as goal

abbrev pub invariant-loop-offset : goal.invariant-loop-offset
invariant-loop-offset g l = l.text.items ≡ l.fn.text.items ++ contents_at (g.M.GuestPages.image l.memory) l.block (take l.offset-index l.offsets)
