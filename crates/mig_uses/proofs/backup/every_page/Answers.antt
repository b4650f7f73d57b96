use Rattle.std.proofs.Common.{◌+◌, sym, subst}
use Rattle.mig_mem.specs.PlaceSet.{PlaceSet}
use Rattle.mig_uses.proofs.EveryPage.{HasAllBefore, one_more}
use Rattle.mig_uses.proofs.backup.every_page.Goals as goal

pub loop-page-preserved : goal.loop-page-preserved
loop-page-preserved g c =
    subst (λ (s : PlaceSet). HasAllBefore c.args.table.now s c.loop-block.block (c.loop-page.page + 1)) (sym c.mark.ensures.set)
    (one_more c.args.table.now c.loop-page.dirty c.loop-block.block c.loop-page.page c.loop-page.invariant)
