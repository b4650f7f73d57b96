use Rattle.std.proofs.Common.{◌≡◌, ◌<◌, ◌∙◌, sym, length, arith, true, false, not, Bool}
use Rattle.std.specs.Cmp.Lexicographic.{same_text}
use Rattle.mig_mem.proofs.Blocks.{same_step}
use Rattle.mig_mem.proofs.table.Table.same.Goals as goal

passed : (b : Bool) → false ≡ not b → true ≡ b
passed true h = cc
passed false h = cc

pub loop-i-preserved : goal.loop-i-preserved
loop-i-preserved g c =
    let here : c.loop-i.i < length c.args.self.now.blocks = omega (arith, c.len-i-end.ensures.value) in
    let there : c.loop-i.i < length c.args.other.now.blocks =
    omega (arith, c.len-i-end.ensures.value, c.len.ensures.value, c.len-else-page_size.ensures.value) in
    let ids = same_text c.id.result.now c.id-else-pages.result.now (passed _ c.if-ne.ensures) in
    same_step c.args.self.now.blocks c.args.other.now.blocks c.loop-i.i here there c.loop-i.invariant
    (sym c.id.ensures.value ∙ ids ∙ c.id-else-pages.ensures.value) (omega (arith, c.pages.ensures.value, c.pages-in-loop-i.ensures.value))
