use Rattle.std.proofs.Common.{ℕ, List, ◌≡◌, ◌+◌, ◌<◌, ◌^◌, ◌++◌, Bool, false, length, Some, None, arith, rules, sym, ap, refl, subst, ◌∙◌}
use Rattle.std.specs.Prelude.{Option, IfSome, IsTrue, IsFalse, IsOk}
use Rattle.mig_mem.specs.RamTable.{RamTable}
use Rattle.mig_mem.specs.Image.{Image}
use Rattle.mig_stream.specs.Reader.{Reader, Stands, IsFinal}
use Rattle.mig_single_load.specs.Loader.{put_so_far}
use Rattle.mig_single_load.specs.LoadInPlace.{settings_for}
use Rattle.mig_sections.specs.Sections.{SectionsLoad, sections_load, LoadsSections, ReadsSome, reader_if}
use Rattle.mig_sections.proofs.WholeSections.{reads_kept, reads_if, loads_more, by_reader, other_stays, not_another, fed_ok}
use Rattle.mig_sections.proofs.sections_load.SectionsLoad.feed.Goals as goal

pub read_piece-requires-clause-some : goal.read_piece-requires-clause-some
read_piece-requires-clause-some g c =
    let is : c.self.inside.reader ≡ Some c.in-Some.reader = search rules in
    let same : c.self.inside.table ≡ (g.M.GuestTarget.image c.args.memory.now).table = c.same.ensures.0 c.if-not-same.false ∙ c.table.ensures.value in
    subst (λ (t : RamTable). ReadsSome t c.self.inside.sections c.in-Some.reader) same
    (reads_kept c.self.inside.reader c.in-Some.reader is c.self.invariant.reads).0

pub returns-in_default-clause-ok : goal.returns-in_default-clause-ok
returns-in_default-clause-ok g c = λ given first text known.
    let s : SectionsLoad = sections_load c.self.inside.reader c.self.inside.table c.self.inside.named c.self.inside.sections c.self.inside.fed
    c.self.inside.ended in
    let memory : Image = g.M.GuestTarget.image c.args.memory.now in
    let loads : LoadsSections memory given first s text false = subst (λ (x : SectionsLoad). LoadsSections memory given first x text false)
    (sym c.self.view_is) known in
    let none : c.self.inside.reader ≡ None = search rules in
    let has = other_stays given first text c.args.piece.now memory s.named s.sections (by_reader memory given first s text false None none loads) in
    subst (λ (o : Option Reader). LoadsSections memory given first
    (sections_load o s.table s.named s.sections (s.fed + length c.args.piece.now) s.ended) (text ++ c.args.piece.now) false) (sym c.take.ensures.after)
    (loads_more memory memory given first s text c.args.piece.now None s.named s.sections loads has)

pub invariant_of-self-in-Ok : goal.invariant_of-self-in-Ok
invariant_of-self-in-Ok g c =
    let is : c.self.inside.reader ≡ Some c.in-Some.reader = search rules in
    let same : c.self.inside.table ≡ (g.M.GuestTarget.image c.args.memory.now).table = c.same.ensures.0 c.if-not-same.false ∙ c.table.ensures.value in
    let was = reads_kept c.self.inside.reader c.in-Some.reader is c.self.invariant.reads in
    let fed : ℕ = c.self.inside.fed + length c.args.piece.now in
    record {
      is_table = c.self.invariant.is_table;
      named_table = c.read_piece.ensures.named_table ∙ c.self.invariant.named_table;
      reads = subst (λ (o : Option Reader). IfSome o
          (λ x. ReadsSome c.self.inside.table c.read_piece.new.sections x × (x.fed ≡ fed) × IsFalse x.ended)) (sym c.reader_if.ensures)
          (reads_if c.in-Ok.own c.self.inside.table c.read_piece.new.sections fed c.read_piece.new.reader
          (λ own. subst (λ (t : RamTable). ReadsSome t c.read_piece.new.sections c.read_piece.new.reader) (sym same) (c.in-Ok.ensures.some own))
          (c.in-Ok.ensures.fed ∙ ap (λ (k : ℕ). k + length c.args.piece.now) was.1) c.read_piece.ensures.open);
    }

pub returns-in-Ok-clause-ok : goal.returns-in-Ok-clause-ok
returns-in-Ok-clause-ok g c = λ given first text known.
    let s : SectionsLoad = sections_load c.self.inside.reader c.self.inside.table c.self.inside.named c.self.inside.sections c.self.inside.fed
    c.self.inside.ended in
    let before : Image = g.M.GuestTarget.image c.args.memory.now in
    let after : Image = g.M.GuestTarget.image c.read_piece.new.memory in
    let loads : LoadsSections before given first s text false = subst (λ (x : SectionsLoad). LoadsSections before given first x text false)
    (sym c.self.view_is) known in
    let is : c.self.inside.reader ≡ Some c.in-Some.reader = search rules in
    let has = c.in-Ok.ensures.ok given first text loads.is_image (by_reader before given first s text false (Some c.in-Some.reader) is loads) in
    subst (λ (o : Option Reader). LoadsSections after given first
    (sections_load o s.table c.read_piece.new.named c.read_piece.new.sections (s.fed + length c.args.piece.now) s.ended) (text ++ c.args.piece.now) false)
    (sym c.reader_if.ensures)
    (loads_more before after given first s text c.args.piece.now
    (reader_if c.in-Ok.own c.read_piece.new.reader) c.read_piece.new.named c.read_piece.new.sections loads has)

pub returns-in-Err-clause-settled : goal.returns-in-Err-clause-settled
returns-in-Err-clause-settled g c = λ given first text known final _.
    let s : SectionsLoad = sections_load c.self.inside.reader c.self.inside.table c.self.inside.named c.self.inside.sections c.self.inside.fed
    c.self.inside.ended in
    let before : Image = g.M.GuestTarget.image c.args.memory.now in
    let loads : LoadsSections before given first s text false = subst (λ (x : SectionsLoad). LoadsSections before given first x text false)
    (sym c.self.view_is) known in
    let is : c.self.inside.reader ≡ Some c.in-Some.reader = search rules in
    let has = by_reader before given first s text false (Some c.in-Some.reader) is loads in
    let settled = subst (λ (t : RamTable). Stands (settings_for t given) (put_so_far text false s.sections) c.in-Some.reader
    → IsFinal (settings_for t given) text → IsOk c.read_piece.result) has.in_memory.same_table (c.read_piece.ensures.settled given text) in
    fed_ok c.read_piece.result c.in-Err.field-0 c.in-Err.is (settled has.is_read.1 final)

pub returns-in-Err-clause-another : goal.returns-in-Err-clause-another
returns-in-Err-clause-another g c = λ given first text known another _.
    let s : SectionsLoad = sections_load c.self.inside.reader c.self.inside.table c.self.inside.named c.self.inside.sections c.self.inside.fed
    c.self.inside.ended in
    let before : Image = g.M.GuestTarget.image c.args.memory.now in
    let loads : LoadsSections before given first s text false = subst (λ (x : SectionsLoad). LoadsSections before given first x text false)
    (sym c.self.view_is) known in
    let is : c.self.inside.reader ≡ Some c.in-Some.reader = search rules in
    not_another given first text before s.named s.sections c.in-Some.reader (by_reader before given first s text false (Some c.in-Some.reader) is loads) another
