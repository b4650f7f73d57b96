use Rattle.mig_uses.specs.Straight.{WritesWithin}
use Rattle.mig_uses.proofs.straight.read_pages.Given as goal

abbrev pub invariant-loop-i : goal.invariant-loop-i
invariant-loop-i g l = WritesWithin l.block l.head.bytes.now (g.M.GuestTarget.image l.fn.memory) (g.M.GuestTarget.image l.memory)
