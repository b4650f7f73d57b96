use Rattle.std.proofs.Common.{take}
use Rattle.mig_mem.specs.Puts.{PutsAll}
use Rattle.mig_mem.proofs.putting.put_within.Given as goal

abbrev pub invariant-loop-page : goal.invariant-loop-page
invariant-loop-page l = PutsAll l.size l.block l.first l.fn.part l.part (take l.page-index l.pages)
