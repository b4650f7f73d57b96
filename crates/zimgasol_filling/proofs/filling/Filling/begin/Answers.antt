use Rattle.std.proofs.Common.{Some, ap, ◌∙◌}
use Rattle.mig_mem.specs.Image.{zero_page}
use Rattle.mig_mem.specs.PlaceSet.{PlaceSet}
use Rattle.zimgasol_filling.proofs.Steps.{filled_none, taken_none}
use Rattle.zimgasol_filling.proofs.filling.Filling.begin.Goals as goal

pub returns-clause-filled : goal.returns-clause-filled
returns-clause-filled g c =
    filled_none (g.F.PlacedFiles.has c.args.self.now.target) (g.F.PlacedFiles.file c.args.self.now.target) _ c.args.table.now
    c.page_size-page_size.ensures (c.in_ok-self.ensures ∙ ap zero_page c.page_size-page_size.ensures)
    (ap (λ (s : PlaceSet). Some s) c.in_ok-none.ensures) c.clear.ensures.items

pub returns-clause-taken : goal.returns-clause-taken
returns-clause-taken g c = λ all.
    taken_none (g.F.PlacedFiles.has c.args.self.now.target) (g.F.PlacedFiles.file c.args.self.now.target) _ c.args.table.now
    (filled_none (g.F.PlacedFiles.has c.args.self.now.target) (g.F.PlacedFiles.file c.args.self.now.target) _ c.args.table.now
    c.page_size-page_size.ensures (c.in_ok-self.ensures ∙ ap zero_page c.page_size-page_size.ensures)
    (ap (λ (s : PlaceSet). Some s) c.in_ok-none.ensures) c.clear.ensures.items all)
