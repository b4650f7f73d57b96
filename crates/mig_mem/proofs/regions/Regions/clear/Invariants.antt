use Rattle.std.proofs.Common.{◌≡◌, ◌++◌, map, take, drop}
use Rattle.mig_mem.specs.BlockPages.{cleared}
use Rattle.mig_mem.proofs.regions.Regions.clear.Given as goal

abbrev pub invariant-loop-region : goal.invariant-loop-region
invariant-loop-region g l = l.region-items ≡ map cleared (take l.region-index l.initial.region-items) ++ drop l.region-index l.initial.region-items
