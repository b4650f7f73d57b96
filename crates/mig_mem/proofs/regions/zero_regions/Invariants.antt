use Rattle.std.proofs.Common.{◌≡◌, map}
use Rattle.std.specs.List.{range_with_len}
use Rattle.mig_mem.specs.Regions.{zero_region}
use Rattle.mig_mem.proofs.regions.zero_regions.Given as goal

abbrev pub invariant-loop-i : goal.invariant-loop-i
invariant-loop-i g l = l.regions.items ≡ map (zero_region l.per l.size l.count) (range_with_len 0 l.i)
