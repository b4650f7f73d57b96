use Rattle.std.proofs.Common.{◌∙◌, length, sym, ap, arith}
use Rattle.mig_mem.specs.RamTable.{RamTable}
use Rattle.mig_mem.proofs.Walks.{found_in_none, walked_none, walked_block, walked_found, walked_all}
use Rattle.mig_mem.proofs.dirty.Dirty.first_from.Goals as goal

pub returns-then-count-eq0 : goal.returns-then-count-eq0
returns-then-count-eq0 g c = found_in_none _ c.args.self.now.marked (sym c.if-count-eq0.true ∙ c.count.ensures.value)

pub loop-block-init : goal.loop-block-init
loop-block-init g c = walked_none c.args.self.now c.args.from

pub loop-block-preserved : goal.loop-block-preserved
loop-block-preserved g c = walked_block c.args.self.now c.args.from c.loop-block.block c.loop-block.page c.loop-block.invariant c.in_default.ensures.none

pub returns-in-Some : goal.returns-in-Some
returns-in-Some g c = sym (walked_found c.args.self.now c.args.from c.loop-block.block c.loop-block.page c.in-Some.page
    c.table.ensures.set c.loop-block.invariant c.in-Some.ensures.some)

pub returns : goal.returns
returns g c =
    sym (walked_all c.args.self.now c.args.from c.loop-block.block c.loop-block.page c.table.ensures.set c.loop-block.invariant
    (omega (arith, c.len-block-end.ensures.value, ap (λ (t : RamTable). length t.blocks) c.table.ensures.value)))
