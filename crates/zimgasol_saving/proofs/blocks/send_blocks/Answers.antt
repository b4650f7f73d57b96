use Rattle.std.proofs.Common.{rules, ℕ, ◌≡◌, ◌*◌, ◌<◌, ◌^◌, length, Some, subst, arith}
use Rattle.mig_mem.specs.RamTable.{RamTable, IsTable, block}
use Rattle.mig_mem.proofs.PageSizes.{page_size_some, page_size_small}
use Rattle.mig_mem.proofs.Blocks.{block_room}
use Rattle.zimgasol_saving.specs.Sent.{Source, source_of}
use Rattle.zimgasol_saving.specs.Blocks.{SendsBlock, SendsBlocks}
use Rattle.zimgasol_saving.proofs.BlockSteps.{blocks_none, blocks_more}
use Rattle.zimgasol_saving.proofs.blocks.send_blocks.Goals as goal

pub each-init : goal.each-init
each-init g c = λ sources known.
    blocks_none (g.S.PieceSink.holds c.args.sink.now) (g.W.Write.contents c.args.out.now) c.args.table.now sources

pub each-preserved : goal.each-preserved
each-preserved g c = λ sources known.
    let table : RamTable = c.args.table.now in
    let b : ℕ = c.each.block in
    let limits : IsTable table = c.keeps_limits.ensures in
    let lt : b < length table.blocks = search rules in
    let size : c.page_size-page_size.result ≡ table.page_size = c.page_size-page_size.ensures in
    let pages : c.pages-pages.result ≡ (block table.blocks b).pages = c.pages-pages.ensures.value in
    let sized = subst
    (λ (z : ℕ). (s : Source) → 0 < z → z * 256 < 2 ^ 64 → c.pages-pages.result * z < 2 ^ 64 → g.B.BlockFiles.source c.args.files.now b ≡ Some s
    → SendsBlock (g.S.PieceSink.holds c.each.sink) (g.S.PieceSink.holds c.send_block.new.sink) (g.W.Write.contents c.each.out)
    (g.W.Write.contents c.send_block.new.out) z b c.pages-pages.result s) size c.in_ok-send_block.ensures in
    let counted = subst
    (λ (n : ℕ). (s : Source) → 0 < table.page_size → table.page_size * 256 < 2 ^ 64 → n * table.page_size < 2 ^ 64
    → g.B.BlockFiles.source c.args.files.now b ≡ Some s
    → SendsBlock (g.S.PieceSink.holds c.each.sink) (g.S.PieceSink.holds c.send_block.new.sink) (g.W.Write.contents c.each.out)
    (g.W.Write.contents c.send_block.new.out) table.page_size b n s) pages sized in
    blocks_more (g.S.PieceSink.holds c.args.sink.now) (g.S.PieceSink.holds c.each.sink) (g.S.PieceSink.holds c.send_block.new.sink)
    (g.W.Write.contents c.args.out.now) (g.W.Write.contents c.each.out) (g.W.Write.contents c.send_block.new.out) table sources b
    (c.each.invariant sources known)
    (counted (source_of sources b) (page_size_some table.page_size limits.has_page_size)
    (omega (arith, page_size_small table.page_size limits.has_page_size)) (omega (arith, block_room table b limits lt)) (known.are_known b lt))

pub returns : goal.returns
returns g c = λ sources known.
    let all : c.each.block ≡ length c.args.table.now.blocks = search rules in
    subst
    (λ (n : ℕ). SendsBlocks (g.S.PieceSink.holds c.args.sink.now) (g.S.PieceSink.holds c.each.sink) (g.W.Write.contents c.args.out.now)
    (g.W.Write.contents c.each.out) c.args.table.now sources n) all (c.each.invariant sources known)
