use Rattle.mig_mem.proofs.Images.{answer_none, answer_some}
use Rattle.mig_mem.proofs.lent.LentMemoryGuestPages.page.Goals as goal

pub returns-then-not-holds-clause-value : goal.returns-then-not-holds-clause-value
returns-then-not-holds-clause-value g c =
    answer_none c.args.self.now c.table.result.now c.args.place c.holds.result c.table.ensures.image c.table.ensures.value c.holds.ensures.1 c.if-not-holds.true

pub returns-clause-value : goal.returns-clause-value
returns-clause-value g c =
    (answer_some c.args.self.now c.table.result.now c.args.place c.page_in.result.now c.table.ensures.image c.table.ensures.value
    (c.holds.ensures.0 c.if-not-holds.false) c.page_in.ensures).0

pub returns-clause-size : goal.returns-clause-size
returns-clause-size g c =
    (answer_some c.args.self.now c.table.result.now c.args.place c.page_in.result.now c.table.ensures.image c.table.ensures.value
    (c.holds.ensures.0 c.if-not-holds.false) c.page_in.ensures).1
