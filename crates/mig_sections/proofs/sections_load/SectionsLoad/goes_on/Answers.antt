use Rattle.std.proofs.Common.{ℕ, ◌≡◌, ◌∙◌, Some, None, sym, subst, false, refl}
use Rattle.mig_load_types.specs.Settings.{for_table}
use Rattle.mig_single_load.specs.Loader.{put_so_far}
use Rattle.mig_single_load.specs.LoadInPlace.{settings_for}
use Rattle.mig_sections.specs.Sections.{SectionsLoad, sections_load, LoadsSections}
use Rattle.mig_sections.proofs.WholeSections.{by_reader, goes_on_own, still_reads, not_without}
use Rattle.mig_sections.proofs.sections_load.SectionsLoad.goes_on.Goals as goal

pub returns-in-Reading : goal.returns-in-Reading
returns-in-Reading g c = λ memory given first text ended known.
    let s : SectionsLoad = sections_load c.self.inside.reader c.self.inside.table c.self.inside.named c.self.inside.sections c.self.inside.fed
    c.self.inside.ended in
    let loads : LoadsSections memory given first s text ended = subst (λ (x : SectionsLoad). LoadsSections memory given first x text ended)
    (sym c.self.view_is) known in
    let has = by_reader memory given first s text ended (Some c.in-Some.reader) c.in-Some.is loads in
    let told = c.state.ensures (settings_for first.table given) (put_so_far text false s.sections) has.is_read.1 in
    (λ _. goes_on_own given first text memory s.named s.sections c.in-Some.reader c.state.result has told c.in-Reading.is, λ _. refl)

pub returns-in_default : goal.returns-in_default
returns-in_default g c = λ memory given first text ended known.
    let s : SectionsLoad = sections_load c.self.inside.reader c.self.inside.table c.self.inside.named c.self.inside.sections c.self.inside.fed
    c.self.inside.ended in
    let loads : LoadsSections memory given first s text ended = subst (λ (x : SectionsLoad). LoadsSections memory given first x text ended)
    (sym c.self.view_is) known in
    let has = by_reader memory given first s text ended (Some c.in-Some.reader) c.in-Some.is loads in
    let told = c.state.ensures (settings_for first.table given) (put_so_far text false s.sections) has.is_read.1 in
    (λ claim. absurd (let e = claim in cc), λ on. absurd (c.in_default.not-Reading (still_reads given first text c.state.result has.is_page_size told on)))

pub returns-in-None : goal.returns-in-None
returns-in-None g c = λ memory given first text ended known.
    let s : SectionsLoad = sections_load c.self.inside.reader c.self.inside.table c.self.inside.named c.self.inside.sections c.self.inside.fed
    c.self.inside.ended in
    let loads : LoadsSections memory given first s text ended = subst (λ (x : SectionsLoad). LoadsSections memory given first x text ended)
    (sym c.self.view_is) known in
    let has = by_reader memory given first s text ended None c.in-None.is loads in
    (λ claim. absurd (let e = claim in cc), λ on. absurd (not_without given first text memory s.named s.sections has on))
