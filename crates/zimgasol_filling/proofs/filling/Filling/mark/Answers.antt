use Rattle.std.proofs.Common.{Some, ap, refl, sym, ◌∙◌, subst}
use Rattle.mig_mem.specs.RamTable.{RamTable}
use Rattle.mig_mem.specs.Place.{IsPlace}
use Rattle.mig_mem.specs.PlaceSet.{PlaceSet}
use Rattle.zimgasol_filling.proofs.Steps.{marked_more, marks_more}
use Rattle.zimgasol_filling.proofs.filling.Filling.mark.Goals as goal

pub returns-clause-marked : goal.returns-clause-marked
returns-clause-marked g c =
    marked_more (g.F.PlacedFiles.has c.args.self.now.target) (g.F.PlacedFiles.file c.args.self.now.target) c.args.self.now _ c.args.place c.in-Some.written
    refl refl refl (sym c.take.ensures.value ∙ c.in-Some.is) (ap (λ (s : PlaceSet). Some s) c.mark.ensures.set)

pub returns-clause-place : goal.returns-clause-place
returns-clause-place g c = λ memory is place.
    marks_more _ c.args.place c.in-Some.written
    (subst (λ (t : RamTable). IsPlace t c.args.place) c.table.ensures.value (c.holds.ensures.0 c.if-not-holds.false))
    (ap (λ (s : PlaceSet). Some s) c.mark.ensures.set)
