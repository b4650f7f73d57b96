use Rattle.mig_mem.proofs.RegionPuts.{PutTo}
use Rattle.mig_mem.proofs.regions.put_in_blocks.Given as goal

abbrev pub invariant-loop-b : goal.invariant-loop-b
invariant-loop-b g l = PutTo l.b l.fn.blocks l.blocks l.pages
