use Rattle.std.proofs.Common.{ℕ, Option, refl, sym, ◌∙◌, ap, subst}
use Rattle.mig_mem.specs.Image.{with_page}
use Rattle.zimgasol_filling.specs.Filled.{IsFilled}
use Rattle.zimgasol_filling.proofs.Steps.{page_added, other_added, beyond_table}
use Rattle.zimgasol_filling.proofs.filling.Filling.write_page.Goals as goal

pub returns-clause-place : goal.returns-clause-place
returns-clause-place g c = λ memory is place offset low len.
    let t = c.turn_to.new.self in
    let has = g.F.PlacedFiles.has t.target in
    let file : ℕ → Option ℕ = g.F.PlacedFiles.file c.args.self.now.target in
    let taken : IsFilled has file t memory =
    subst (λ (h : ℕ → Option ℕ). IsFilled has h t memory)
    (c.in_ok-turn_to.ensures.files ∙ ap (λ f. g.F.PlacedFiles.file f) c.in_ok-mark.ensures.files)
    (c.in_ok-turn_to.ensures.filled memory (c.in_ok-mark.ensures.marked memory is)) in
    subst (λ (h : ℕ → Option ℕ). IsFilled has h
    (record t { run = record { file = t.run.file; start = t.run.start; bytes = c.extend_from_slice.new.self } })
    (with_page memory c.args.place c.args.page.now))
    (sym (c.in_ok-turn_to.ensures.files ∙ ap (λ f. g.F.PlacedFiles.file f) c.in_ok-mark.ensures.files))
    (page_added has file t (record t { run = record { file = t.run.file; start = t.run.start; bytes = c.extend_from_slice.new.self } }) memory
    c.args.place c.args.page.now c.args.number c.args.at c.requires.own c.requires.file offset len
    (λ set at. c.in_ok-mark.ensures.place memory is place set (sym c.in_ok-turn_to.ensures.marks ∙ at))
    (record {
      same_size = refl;
      same_zeros = refl;
      same_marks = refl;
      has_file = c.in_ok-turn_to.ensures.file;
      same_file = refl;
      same_start = refl;
      has_bytes = c.in_ok-extend_from_slice.ensures.items;
    })
    (c.in_ok-turn_to.ensures.at low) taken)

pub returns-clause-other : goal.returns-clause-other
returns-clause-other g c = λ memory is past.
    let t = c.turn_to.new.self in
    let has = g.F.PlacedFiles.has t.target in
    let file : ℕ → Option ℕ = g.F.PlacedFiles.file c.args.self.now.target in
    let taken : IsFilled has file t memory =
    subst (λ (h : ℕ → Option ℕ). IsFilled has h t memory)
    (c.in_ok-turn_to.ensures.files ∙ ap (λ f. g.F.PlacedFiles.file f) c.in_ok-mark.ensures.files)
    (c.in_ok-turn_to.ensures.filled memory (c.in_ok-mark.ensures.marked memory is)) in
    subst (λ (h : ℕ → Option ℕ). IsFilled has h
    (record t { run = record { file = t.run.file; start = t.run.start; bytes = c.extend_from_slice.new.self } }) memory)
    (sym (c.in_ok-turn_to.ensures.files ∙ ap (λ f. g.F.PlacedFiles.file f) c.in_ok-mark.ensures.files))
    (other_added has file t (record t { run = record { file = t.run.file; start = t.run.start; bytes = c.extend_from_slice.new.self } }) memory
    c.args.place c.args.page.now c.args.number c.requires.own c.requires.file
    (beyond_table memory.table c.args.place past)
    (record {
      same_size = refl;
      same_zeros = refl;
      same_marks = refl;
      has_file = c.in_ok-turn_to.ensures.file;
      same_file = refl;
      same_start = refl;
      has_bytes = c.in_ok-extend_from_slice.ensures.items;
    })
    taken)
