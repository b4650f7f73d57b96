use Rattle.std.proofs.Common.{ℕ, ◌≡◌, ◌∙◌, Some, None, sym, subst, false}
use Rattle.mig_load_types.specs.Settings.{for_table}
use Rattle.mig_single_load.specs.Loader.{put_so_far}
use Rattle.mig_single_load.specs.LoadInPlace.{settings_for}
use Rattle.mig_sections.specs.Sections.{SectionsLoad, sections_load, LoadsSections}
use Rattle.mig_sections.proofs.WholeSections.{by_reader, verdict_own}
use Rattle.mig_sections.proofs.sections_load.SectionsLoad.verdict.Goals as goal

pub returns-in-Some : goal.returns-in-Some
returns-in-Some g c = λ memory given first text ended known.
    let s : SectionsLoad = sections_load c.self.inside.reader c.self.inside.table c.self.inside.named c.self.inside.sections c.self.inside.fed
    c.self.inside.ended in
    let loads : LoadsSections memory given first s text ended = subst (λ (x : SectionsLoad). LoadsSections memory given first x text ended)
    (sym c.self.view_is) known in
    let has = by_reader memory given first s text ended (Some c.in-Some.reader) c.in-Some.is loads in
    verdict_own given first text memory s.named s.sections c.in-Some.reader c.state.result c.verdict_at.result has
    (c.state.ensures (settings_for first.table given) (put_so_far text false s.sections) has.is_read.1) c.verdict_at.ensures
