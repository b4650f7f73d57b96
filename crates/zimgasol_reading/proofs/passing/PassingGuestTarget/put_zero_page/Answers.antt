use Rattle.std.proofs.Common.{◌≡◌, None, sym, subst}
use Rattle.std.specs.Prelude.{IsNone}
use Rattle.mig_mem.specs.Place.{IsPlace}
use Rattle.mig_mem.specs.Image.{Image, IsImage}
use Rattle.mig_stream.specs.PageRecord.{PageRecord}
use Rattle.zimgasol_reading.specs.Passed.{HasPassed}
use Rattle.zimgasol_reading.proofs.Images.{cleared_image}
use Rattle.zimgasol_reading.proofs.PassedPages.{passed_more}
use Rattle.zimgasol_reading.proofs.passing.PassingGuestTarget.put_zero_page.Goals as goal

pub invariant_of-self : goal.invariant_of-self
invariant_of-self g c =
    let old : Image = c.self.inside.shadow.image in
    let r : PageRecord = record { place = c.args.place; content = None } in
    let here : IsPlace old.table c.args.place = subst (λ (i : Image). IsPlace i.table c.args.place) (sym c.self.view_is) c.requires in
    subst (λ (i : Image). IsImage i × (i.table ≡ c.self.inside.table) × (IsNone c.pass.new.trouble → HasPassed (g.S.PageSink.holds c.pass.new.sink) i))
    (sym c.with_zeros-self-inside.ensures) (
      cleared_image old c.args.place c.self.invariant.0,
      c.self.invariant.1,
      λ none. passed_more (g.S.PageSink.holds c.self.inside.sink) (g.S.PageSink.holds c.pass.new.sink) old r (c.pass.ensures.taken none) here tt
          (c.self.invariant.2 (c.pass.ensures.none none)),
    )
