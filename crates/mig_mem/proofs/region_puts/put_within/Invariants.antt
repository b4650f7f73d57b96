use Rattle.std.proofs.Common.{take}
use Rattle.mig_mem.specs.Puts.{PutsRegions}
use Rattle.mig_mem.proofs.region_puts.put_within.Given as goal

abbrev pub invariant-loop-page : goal.invariant-loop-page
invariant-loop-page g l = PutsRegions l.size l.per l.block l.first l.fn.part l.part (take l.page-index l.pages)
