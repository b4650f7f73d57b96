use Rattle.std.proofs.Common.{◌≡◌, take}
use Rattle.mig_mem.proofs.regions.Regions.try_copy.Given as goal

abbrev pub invariant-loop-region : goal.invariant-loop-region
invariant-loop-region g l = l.regions.items ≡ take l.region-index l.self-inside.regions.items
