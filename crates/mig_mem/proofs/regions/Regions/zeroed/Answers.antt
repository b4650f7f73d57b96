use Rattle.std.proofs.Common.{ℕ, ◌≤◌, ◌+◌, ◌*◌, ◌/◌, ◌%◌, ◌^◌, min, arith}
use Rattle.std.proofs.lemmas.Grind.{div_ceil_times}
use Rattle.mig_mem.proofs.BlockRegions.{few_pages, zeros_are_regions, zeros_in_regions}
use Rattle.mig_mem.proofs.regions.Regions.zeroed.Goals as goal

pub invariant_of-result : goal.invariant_of-result
invariant_of-result g c =
    let count : ℕ = c.args.count in
    let per : ℕ = c.region_len-per.result in
    let n : ℕ = count / per + min 1 (count % per) in
    let few : count ≤ 2 ^ 28 = few_pages c.args.size count c.requires.size c.requires.room in
    let span = div_ceil_times count per c.region_len-per.ensures.some in
    let room : n * per ≤ 2 ^ 40 = omega (arith, span.1, c.region_len-per.ensures.few) in
    zeros_are_regions per c.args.size count n c.in_ok-regions.regions.items c.in_ok-regions.ensures c.region_len-per.ensures.some room span.0

pub returns : goal.returns
returns g c =
    let count : ℕ = c.args.count in
    let per : ℕ = c.region_len-per.result in
    let n : ℕ = count / per + min 1 (count % per) in
    zeros_in_regions per c.args.size count n c.in_ok-regions.regions.items c.in_ok-regions.ensures c.region_len-per.ensures.some
    (div_ceil_times count per c.region_len-per.ensures.some).0
