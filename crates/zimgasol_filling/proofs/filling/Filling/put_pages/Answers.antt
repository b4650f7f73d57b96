use Rattle.std.proofs.Common.{rules, ◌≡◌, length}
use Rattle.zimgasol_filling.proofs.Steps.{page_kept}
use Rattle.zimgasol_filling.proofs.filling.Filling.put_pages.Goals as goal

pub loop-content-preserved : goal.loop-content-preserved
loop-content-preserved g c = λ table had.
    let len : length c.in-Some.content.now ≡ c.loop-content.self.page_size = search rules in
    page_kept (g.F.PlacedFiles.has c.loop-content.self.target) (g.F.PlacedFiles.has c.put_page.new.self.target)
    (g.F.PlacedFiles.file c.loop-content.self.target) (g.F.PlacedFiles.file c.put_page.new.self.target) c.loop-content.self c.put_page.new.self
    (record { block = c.args.block; page = c.loop-content.page }) c.in-Some.content.now len
    (λ memory is place long. c.in_ok-put_page.ensures.place memory is place long) c.in_ok-put_page.ensures.other table (c.loop-content.invariant table had)
