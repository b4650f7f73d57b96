use Rattle.std.proofs.Common.{◌≡◌, sym, ap, ◌∙◌}
use Rattle.std.proofs.lemmas.Bool.{eq-eqb, eqb-true}
use Rattle.mig_mem.specs.RamTable.{RamTable, total_pages}
use Rattle.zimgasol_reading.proofs.Wholes.{has_each, is_full}
use Rattle.zimgasol_reading.proofs.blocks.Blocks.is_whole.Goals as goal

pub returns : goal.returns
returns c =
    let s = c.args.self.now.recorded in
    let pages : c.pages_of.result ≡ total_pages s.table.blocks = c.pages_of.ensures ∙ ap (λ (t : RamTable). total_pages t.blocks) c.table.ensures.value in (
      λ same. has_each s c.count.ensures.set (sym c.count.ensures.value ∙ eqb-true c.count.result c.pages_of.result same ∙ pages),
      λ each. eq-eqb c.count.result c.pages_of.result (c.count.ensures.value ∙ is_full s c.count.ensures.set each ∙ sym pages),
    )
