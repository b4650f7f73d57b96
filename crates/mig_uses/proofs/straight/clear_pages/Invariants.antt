use Rattle.mig_uses.specs.Straight.{WritesWithin, HasZeros}
use Rattle.mig_uses.proofs.straight.clear_pages.Given as goal

abbrev pub invariant-loop-i : goal.invariant-loop-i
invariant-loop-i g l = record {
  writes : WritesWithin l.block l.head.bytes.now (g.M.GuestTarget.image l.fn.memory) (g.M.GuestTarget.image l.memory);
  zeros : HasZeros l.block l.head.bytes.now l.i (g.M.GuestTarget.image l.memory);
}
