use Rattle.mig_uses.proofs.EveryPage.{HasAllBefore}
use Rattle.mig_uses.proofs.backup.every_page.Given as goal

abbrev pub invariant-loop-page : goal.invariant-loop-page
invariant-loop-page g l = HasAllBefore l.table l.dirty l.block l.page

abbrev pub invariant-loop-block : goal.invariant-loop-block
invariant-loop-block g l = HasAllBefore l.table l.dirty l.block 0
