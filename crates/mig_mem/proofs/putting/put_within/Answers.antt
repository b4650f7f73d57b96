use Rattle.std.proofs.Common.{None}
use Rattle.mig_mem.specs.declared.putting.RoundPage.{RoundPage}
use Rattle.std.proofs.lemmas.List.{take_more}
use Rattle.mig_mem.proofs.BytePuts.{puts_more}
use Rattle.mig_mem.proofs.putting.put_within.Goals as goal

abbrev no_page : RoundPage
no_page = record { place = record { block = 0; page = 0 }; content = None }

pub loop-page-preserved : goal.loop-page-preserved
loop-page-preserved c =
    rw (take_more c.args.pages.now c.loop-page.page-index no_page c.loop-page-test.true)
    (puts_more c.args.size c.args.block c.args.first c.args.part.now c.loop-page.part c.put_one.new.part _ _ c.loop-page.invariant c.put_one.ensures)
