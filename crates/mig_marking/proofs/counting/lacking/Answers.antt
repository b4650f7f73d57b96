use Rattle.std.proofs.Common.{◌≡◌, ap, ◌∙◌, arith}
use Rattle.mig_mem.specs.RamTable.{RamTable, total_pages}
use Rattle.mig_marking.proofs.Ascending.{lacking}
use Rattle.mig_marking.proofs.counting.lacking.Goals as goal

pub overflow_sub-result : goal.overflow_sub-result
overflow_sub-result g c =
    let pages : c.pages_of.result ≡ total_pages c.args.set.now.table.blocks = c.pages_of.ensures
    ∙ ap (λ (t : RamTable). total_pages t.blocks) c.table.ensures.value in
    omega (arith, lacking c.args.set.now c.count.ensures.set, pages, c.count.ensures.value)

pub returns-clause-value : goal.returns-clause-value
returns-clause-value g c =
    let pages : c.pages_of.result ≡ total_pages c.args.set.now.table.blocks = c.pages_of.ensures
    ∙ ap (λ (t : RamTable). total_pages t.blocks) c.table.ensures.value in
    omega (arith, lacking c.args.set.now c.count.ensures.set, pages, c.count.ensures.value)
