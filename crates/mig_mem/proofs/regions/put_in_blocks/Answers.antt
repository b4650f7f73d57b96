use Rattle.std.proofs.Common.{◌≡◌, ◌<◌, ◌∙◌, get_or, length, sym, subst, arith}
use Rattle.std.specs.List.{All}
use Rattle.std.proofs.lemmas.List.{get_or_default}
use Rattle.mig_mem.specs.BlockPages.{BlockPages, no_pages}
use Rattle.mig_mem.specs.Buffers.{pages_of_block}
use Rattle.mig_mem.specs.Puts.{HasPageSize}
use Rattle.mig_mem.proofs.RegionPuts.{put_to_more}
use Rattle.mig_mem.proofs.regions.put_in_blocks.Goals as goal

pub put_pages-requires-clause-sizes : goal.put_pages-requires-clause-sizes
put_pages-requires-clause-sizes g c κs within =
    let b = c.loop-b.b in
    let now = c.loop-b.blocks in
    let start = c.args.blocks.now in
    let lt : b < length now = omega (arith, c.loop-b.invariant.len) in
    let same : get_or now b c.index-blocks-b.result ≡ pages_of_block start b =
    get_or_default now b c.index-blocks-b.result no_pages lt ∙ c.loop-b.invariant.behind b (omega arith) in
    subst (λ (x : BlockPages). All (HasPageSize x.size) c.args.pages.now) (sym same) (c.requires.sizes b no_pages (omega arith))

pub loop-b-preserved : goal.loop-b-preserved
loop-b-preserved g c =
    put_to_more c.loop-b.b c.args.blocks.now c.loop-b.blocks c.put_pages.new.self c.index-blocks-b.result c.args.pages.now
    c.loop-b.invariant (omega (arith, c.loop-b.invariant.len)) c.put_pages.ensures

pub returns : goal.returns
returns g c = λ k lt. c.loop-b.invariant.before k (omega arith)
