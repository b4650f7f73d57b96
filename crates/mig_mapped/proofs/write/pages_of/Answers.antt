use Rattle.mig_mapped.proofs.Laid.{few_pages}
use Rattle.mig_mapped.proofs.write.pages_of.Goals as goal

pub returns-clause-few : goal.returns-clause-few
returns-clause-few g c = few_pages c.pages.result c.args.table.now.page_size c.keeps_limits.ensures.has_page_size c.pages.ensures.room
