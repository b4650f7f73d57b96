use Rattle.std.proofs.Common.{arith, subst}
use Rattle.mig_mem.specs.RamTable.{RamTable}
use Rattle.mig_mem.specs.PageSize.{IsPageSize}
use Rattle.mig_c_calls.proofs.Copies.{few_pages}
use Rattle.mig_c_calls.proofs.worker.name_claimed.Goals as goal

pub name_batch-requires : goal.name_batch-requires
name_batch-requires c =
    let size : IsPageSize c.args.worker.now.terms.table.page_size =
    subst (λ (t : RamTable). IsPageSize t.page_size) c.table.ensures c.keeps_limits.ensures.has_page_size in
    omega (arith, c.in-Some.ensures.batch.has_few, few_pages c.args.worker.now.terms.table.page_size size)
