use Rattle.std.proofs.Common.{List, [], ◌∷◌, ◌++◌, ◌∙◌, ap, subst, append_assoc}
use Rattle.std.specs.Option.{option_copied}
use Rattle.mig_mem.specs.Image.{Image, zero_image}
use Rattle.mig_stream.specs.PageRecord.{PageRecord}
use Rattle.zimgasol_reading.specs.Recorded.{with_records}
use Rattle.zimgasol_filling.specs.Filled.{IsFilled}
use Rattle.zimgasol_filling.proofs.Steps.{on_ok, record_more}
use Rattle.zimgasol_filling.proofs.filling.FillingPageSink.take_page.Goals as goal

pub returns : goal.returns
returns g c = on_ok c.put_page.result c.put_page.ensures.place (λ puts table records place size had.
    let before : List PageRecord = had.0 in
    let x : PageRecord = record { place = c.args.place; content = option_copied c.args.content } in (
      before,
      subst
          (λ (m : Image). IsFilled (g.F.PlacedFiles.has c.put_page.new.self.target) (g.F.PlacedFiles.file c.put_page.new.self.target) c.put_page.new.self m)
          (record_more table (before ++ records) x ∙ ap (λ (l : List PageRecord). with_records (zero_image table) l) (append_assoc before records (x ∷ [])))
          (puts (with_records (zero_image table) (before ++ records)) had.1 place size),
    ))
