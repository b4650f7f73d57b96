use Rattle.std.proofs.Common.{ℕ, ◌≡◌, ◌∙◌, Some, None, sym, subst, false}
use Rattle.mig_load_types.specs.Settings.{for_table}
use Rattle.mig_single_load.specs.Loader.{put_so_far}
use Rattle.mig_single_load.specs.LoadInPlace.{settings_for}
use Rattle.mig_sections.specs.Sections.{SectionsLoad, sections_load, LoadsSections}
use Rattle.mig_sections.proofs.WholeSections.{by_reader, tells_missing}
use Rattle.mig_sections.proofs.sections_load.SectionsLoad.missing.Goals as goal

pub returns : goal.returns
returns g c = λ memory given first text ended known.
    let s : SectionsLoad = sections_load c.self.inside.reader c.self.inside.table c.self.inside.named c.self.inside.sections c.self.inside.fed
    c.self.inside.ended in
    let loads : LoadsSections memory given first s text ended = subst (λ (x : SectionsLoad). LoadsSections memory given first x text ended)
    (sym c.self.view_is) known in
    tells_missing given first text memory s.named s.sections s.reader c.lacking.result loads.has_sections c.lacking.ensures.value
