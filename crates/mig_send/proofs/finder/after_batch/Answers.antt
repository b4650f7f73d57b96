use Rattle.mig_mem.specs.Place.{IsPlace}
use Rattle.mig_mem.proofs.Walks.{All-has}
use Rattle.mig_send.proofs.Skips.{passed_batch}
use Rattle.mig_send.proofs.finder.after_batch.Goals as goal

pub page_after-page-requires : goal.page_after-page-requires
page_after-page-requires g c =
    (All-has (IsPlace c.args.dirty.now.table) c.args.first c.args.dirty.now.marked c.requires.set.is_within c.requires.first).has_block

pub returns : goal.returns
returns g c =
    passed_batch c.args.dirty.now c.args.limit c.page_after-page.result c.args.first c.first_from.result c.requires.set c.requires.limit c.requires.first
    c.page_after-page.ensures c.first_from.ensures
