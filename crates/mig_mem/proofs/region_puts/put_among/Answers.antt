use Rattle.std.proofs.Common.{ℕ, ◌≡◌, List, get_or, arith}
use Rattle.std.proofs.lemmas.List.{get_or_default}
use Rattle.mig_mem.specs.BlockPages.{BlockPages, no_pages}
use Rattle.mig_mem.specs.Regions.{region_of}
use Rattle.mig_mem.proofs.RegionPuts.{regions_one, regions_elsewhere}
use Rattle.mig_mem.proofs.region_puts.put_among.Goals as goal

pub put_one-requires-clause-same : goal.put_one-requires-clause-same
put_one-requires-clause-same g c = (c.requires.are c.in-Some.n c.index-part-n.result (omega (arith, c.in-Some.ensures.some))).same_size

pub returns-in-Some : goal.returns-in-Some
returns-in-Some g c =
    let part : List BlockPages = c.args.part.now in
    let n : ℕ = c.in-Some.n in
    let i : ℕ = c.in-Some.i in
    let here = c.in-Some.ensures.some in
    let same : get_or part n c.index-part-n.result ≡ region_of part n = get_or_default part n c.index-part-n.result no_pages (omega (arith, here)) in
    rw (c.put_one.ensures, same)
    (regions_one c.args.size c.args.per c.args.block c.args.first n i part c.args.page.now c.requires.are here.0 here.1 here.2 here.3)

pub returns-in_default : goal.returns-in_default
returns-in_default g c =
    regions_elsewhere c.args.size c.args.per c.args.block c.args.first c.args.part.now c.args.page.now c.requires.are
    (rw c.in_default.is at c.region_at.ensures.none)
