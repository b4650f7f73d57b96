use Rattle.std.proofs.Common.{ℕ, List, Option, refl, sym, ◌∙◌, subst}
use Rattle.mig_mem.specs.Image.{with_page, zero_page}
use Rattle.zimgasol_filling.specs.Filled.{WritesAt, IsFilled, StillFilled}
use Rattle.zimgasol_filling.proofs.Steps.{still_zeros, zeros_written, other_written, beyond_table}
use Rattle.zimgasol_filling.proofs.filling.Filling.write_zeros.Goals as goal

pub returns-then-not-may_differ-clause-place : goal.returns-then-not-may_differ-clause-place
returns-then-not-may_differ-clause-place g c = λ memory is place offset.
    still_zeros (g.F.PlacedFiles.has c.args.self.now.target) (g.F.PlacedFiles.file c.args.self.now.target) c.args.self.now memory c.args.place c.args.number
    c.requires.file is (λ set at. sym (c.may_differ.ensures set at) ∙ c.if-not-may_differ.true)

pub returns-clause-place : goal.returns-clause-place
returns-clause-place g c = λ memory is place offset.
    let before = g.F.PlacedFiles.has c.write_run.new.self.target in
    let after = g.F.PlacedFiles.has c.write_at.new.self in
    let file : ℕ → Option ℕ = g.F.PlacedFiles.file c.args.self.now.target in
    let writes : WritesAt before after c.args.number c.args.at c.write_run.new.self.zeros.items =
    subst (λ (l : List ℕ). WritesAt before after c.args.number c.args.at l) c.deref.ensures.value c.in_ok-write_at.ensures.bytes in
    let still : StillFilled (g.F.PlacedFiles.has c.args.self.now.target) file c.args.self.now before file c.write_run.new.self =
    subst (λ (h : ℕ → Option ℕ). StillFilled (g.F.PlacedFiles.has c.args.self.now.target) file c.args.self.now before h c.write_run.new.self)
    c.in_ok-write_run.ensures.files c.in_ok-write_run.ensures.filled in
    subst (λ (h : ℕ → Option ℕ). IsFilled after h (record c.write_run.new.self { target = c.write_at.new.self })
    (with_page memory c.args.place (zero_page memory.table.page_size)))
    (sym (c.in_ok-write_at.ensures.files ∙ c.in_ok-write_run.ensures.files))
    (zeros_written (g.F.PlacedFiles.has c.args.self.now.target) before after file c.args.self.now c.write_run.new.self
    (record c.write_run.new.self { target = c.write_at.new.self }) memory c.args.place c.args.number
    c.args.at c.requires.own c.requires.file offset (λ set at. sym (c.may_differ.ensures set at) ∙ c.if-not-may_differ.false) still
    c.in_ok-write_run.ensures.marks c.in_ok-write_run.ensures.none writes refl refl refl c.in_ok-write_run.ensures.none is)

pub returns-clause-other : goal.returns-clause-other
returns-clause-other g c = λ memory is past.
    let before = g.F.PlacedFiles.has c.write_run.new.self.target in
    let after = g.F.PlacedFiles.has c.write_at.new.self in
    let file : ℕ → Option ℕ = g.F.PlacedFiles.file c.args.self.now.target in
    let writes : WritesAt before after c.args.number c.args.at c.write_run.new.self.zeros.items =
    subst (λ (l : List ℕ). WritesAt before after c.args.number c.args.at l) c.deref.ensures.value c.in_ok-write_at.ensures.bytes in
    let mid : IsFilled before file c.write_run.new.self memory =
    subst (λ (h : ℕ → Option ℕ). IsFilled before h c.write_run.new.self memory) c.in_ok-write_run.ensures.files
    (c.in_ok-write_run.ensures.filled memory is) in
    subst (λ (h : ℕ → Option ℕ). IsFilled after h (record c.write_run.new.self { target = c.write_at.new.self }) memory)
    (sym (c.in_ok-write_at.ensures.files ∙ c.in_ok-write_run.ensures.files))
    (other_written before after file c.write_run.new.self (record c.write_run.new.self { target = c.write_at.new.self }) memory c.args.place
    c.args.number c.args.at c.write_run.new.self.zeros.items c.requires.own
    c.requires.file (beyond_table memory.table c.args.place past) c.in_ok-write_run.ensures.none writes refl refl refl
    c.in_ok-write_run.ensures.none mid)
