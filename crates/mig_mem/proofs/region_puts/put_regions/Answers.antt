use Rattle.std.proofs.Common.{ℕ, ◌≤◌, ◌+◌, ◌*◌, List, take, drop, sym, subst, length, arith}
use Rattle.mig_mem.specs.BlockPages.{BlockPages}
use Rattle.mig_mem.specs.Regions.{IsRegion}
use Rattle.mig_mem.specs.Puts.{PutsRegions}
use Rattle.mig_mem.proofs.PageSizes.{page_before}
use Rattle.mig_mem.proofs.RegionPuts.{regions_all}
use Rattle.mig_mem.proofs.region_puts.put_regions.Goals as goal

pub for_each_chunk_mut-requires-clause-accepts : goal.for_each_chunk_mut-requires-clause-accepts
for_each_chunk_mut-requires-clause-accepts g c κs within = λ start p is. (
  (let h : start * c.args.per + c.args.per ≤ length c.args.regions.now * c.args.per =
      page_before c.args.per (length c.args.regions.now) start (omega (arith, is.in_bounds, is.nonempty)) in
      omega (arith, h, c.requires.room)),
  (
    c.requires.per,
    (
      (λ k d lt. subst (λ (x : BlockPages). IsRegion c.args.per c.args.size x) (sym (is.elements k d lt))
          (c.requires.are (start + k) d (omega (arith, is.in_bounds, lt)))),
      c.requires.sizes,
    ),
  ),
)

pub returns : goal.returns
returns g c =
    let size : ℕ = c.args.size in
    let per : ℕ = c.args.per in
    let count : ℕ = c.regions_each-count.result in
    let old : List BlockPages = c.args.regions.now in
    let new : List BlockPages = c.for_each_chunk_mut.new.s in
    let pages = c.args.pages.now in
    regions_all size per c.args.block count old new pages c.regions_each-count.ensures c.for_each_chunk_mut.auto.s (λ n lt.
    let k = c.for_each_chunk_mut.ensures.chunks n lt in
    subst (λ (l : List BlockPages). PutsRegions size per c.args.block (n * count * per) (take count (drop (n * count) old)) l pages) k.left
    (subst (λ (l : List BlockPages). PutsRegions size per c.args.block (n * count * per) l k.after_call.now pages) k.argument_is k.call))
