use Rattle.std.proofs.Common.{None, take}
use Rattle.std.proofs.lemmas.List.{take_more}
use Rattle.mig_mem.specs.declared.putting.RoundPage.{RoundPage}
use Rattle.mig_mem.proofs.RegionPuts.{regions_more, regions_none, regions_stay}
use Rattle.mig_mem.proofs.region_puts.put_within.Goals as goal

abbrev no_page : RoundPage
no_page = record { place = record { block = 0; page = 0 }; content = None }

pub loop-page-init : goal.loop-page-init
loop-page-init g c = regions_none c.args.size c.args.per c.args.block c.args.first c.args.part.now

pub put_among-requires-clause-are : goal.put_among-requires-clause-are
put_among-requires-clause-are g c =
    regions_stay c.args.size c.args.per c.args.block c.args.first c.args.part.now c.loop-page.part
    (take c.loop-page.page-index c.args.pages.now) c.requires.are c.loop-page.invariant

pub loop-page-preserved : goal.loop-page-preserved
loop-page-preserved g c =
    rw (take_more c.args.pages.now c.loop-page.page-index no_page c.loop-page-test.true)
    (regions_more c.args.size c.args.per c.args.block c.args.first c.args.part.now c.loop-page.part c.put_among.new.part _ _
    c.loop-page.invariant c.put_among.ensures)
