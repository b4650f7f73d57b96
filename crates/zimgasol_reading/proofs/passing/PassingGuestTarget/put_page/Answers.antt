use Rattle.std.proofs.Common.{◌≡◌, length, sym, ap, ◌∙◌, subst}
use Rattle.std.specs.Prelude.{IsNone}
use Rattle.mig_mem.specs.Place.{IsPlace}
use Rattle.mig_mem.specs.Image.{Image, IsImage}
use Rattle.mig_stream.specs.PageRecord.{PageRecord, page_record}
use Rattle.zimgasol_reading.specs.Passed.{HasPassed}
use Rattle.zimgasol_reading.proofs.Images.{written_image}
use Rattle.zimgasol_reading.proofs.PassedPages.{passed_more}
use Rattle.zimgasol_reading.proofs.passing.PassingGuestTarget.put_page.Goals as goal

pub invariant_of-self : goal.invariant_of-self
invariant_of-self g c =
    let old : Image = c.self.inside.shadow.image in
    let r : PageRecord = page_record c.args.place c.args.bytes.now in
    let here : IsPlace old.table c.args.place = subst (λ (i : Image). IsPlace i.table c.args.place) (sym c.self.view_is) c.requires.place in
    let size : length c.args.bytes.now ≡ old.table.page_size = c.requires.bytes ∙ ap (λ (i : Image). i.table.page_size) (sym c.self.view_is) in
    subst (λ (i : Image). IsImage i × (i.table ≡ c.self.inside.table) × (IsNone c.pass.new.trouble → HasPassed (g.S.PageSink.holds c.pass.new.sink) i))
    (sym c.with-self-inside.ensures) (
      written_image old c.args.place c.args.bytes.now c.self.invariant.0 size,
      c.self.invariant.1,
      λ none. passed_more (g.S.PageSink.holds c.self.inside.sink) (g.S.PageSink.holds c.pass.new.sink) old r (c.pass.ensures.taken none) here size
          (c.self.invariant.2 (c.pass.ensures.none none)),
    )
