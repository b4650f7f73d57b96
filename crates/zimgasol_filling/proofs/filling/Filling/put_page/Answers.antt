use Rattle.std.proofs.Common.{ℕ, List, ◌≡◌, ◌<◌, ◌^◌, length, sym, ◌∙◌, subst, inl, inr, arith}
use Rattle.std.specs.Prelude.{IfSome}
use Rattle.std.specs.Option.{option_copied, unwrap_or}
use Rattle.std.proofs.lemmas.Bool.{false≢true}
use Rattle.mig_mem.specs.PlaceSet.{PlaceSet}
use Rattle.mig_mem.specs.Image.{with_page, zero_page}
use Rattle.zimgasol_filling.specs.Filled.{IsFilled}
use Rattle.zimgasol_filling.proofs.Steps.{on_ok, not_filled, offset_is, offset_low, zeros_page}
use Rattle.zimgasol_filling.proofs.filling.Filling.put_page.Goals as goal

pub returns-in_default-clause-place : goal.returns-in_default-clause-place
returns-in_default-clause-place g c = λ memory is place size.
    not_filled (g.F.PlacedFiles.has c.args.self.now.target) (g.F.PlacedFiles.file c.args.self.now.target) c.args.self.now memory c.args.place
    (unwrap_or (option_copied c.args.content) (zero_page memory.table.page_size)) (sym c.file_of.ensures.value ∙ c.in_default.is) is

pub returns-then-not-takes-clause-place : goal.returns-then-not-takes-clause-place
returns-then-not-takes-clause-place g c = λ memory is place size.
    let set : PlaceSet = record { table = memory.table; marked = is.marked } in
    absurd (false≢true (sym c.if-not-takes.true ∙ (c.takes.ensures.value set is.has_marks).1 (inl place)))

pub returns-in_default-content-clause-place : goal.returns-in_default-content-clause-place
returns-in_default-content-clause-place g c = on_ok c.write_zeros.result c.write_zeros.ensures.place (λ writes memory is place size.
    let set : PlaceSet = record { table = memory.table; marked = is.marked } in
    let at = offset_is memory.table c.args.place c.args.self.now.page_size c.saturating_mul-at.result (c.takes.ensures.table set is.has_marks) place
    is.same_size c.saturating_mul-at.ensures in
    subst (λ o. IsFilled (g.F.PlacedFiles.has c.write_zeros.new.self.target) (g.F.PlacedFiles.file c.write_zeros.new.self.target) c.write_zeros.new.self
    (with_page memory c.args.place (unwrap_or (option_copied o) (zero_page memory.table.page_size)))) (sym c.in_default-content.is)
    (writes memory is place at))

pub returns-in_default-content-clause-other : goal.returns-in_default-content-clause-other
returns-in_default-content-clause-other g c = on_ok c.write_zeros.result c.write_zeros.ensures.other (λ writes memory is none.
    let set : PlaceSet = record { table = memory.table; marked = is.marked } in
    elim ((c.takes.ensures.value set is.has_marks).0 c.if-not-takes.false) [
      | inl place ↦ absurd (none place)
      | inr past ↦ writes memory is past
    ])

pub returns-then-is_zero-clause-place : goal.returns-then-is_zero-clause-place
returns-then-is_zero-clause-place g c = on_ok c.write_zeros-then-is_zero.result c.write_zeros-then-is_zero.ensures.place (λ writes memory is place size.
    let set : PlaceSet = record { table = memory.table; marked = is.marked } in
    let page : List ℕ = c.in-Some-content.page.now in
    let at = offset_is memory.table c.args.place c.args.self.now.page_size c.saturating_mul-at.result (c.takes.ensures.table set is.has_marks) place
    is.same_size c.saturating_mul-at.ensures in
    let len : length page ≡ memory.table.page_size =
    subst (λ o. IfSome o (λ bytes. length bytes.now ≡ memory.table.page_size)) c.in-Some-content.is size in
    subst (λ o. IsFilled (g.F.PlacedFiles.has c.write_zeros-then-is_zero.new.self.target) (g.F.PlacedFiles.file c.write_zeros-then-is_zero.new.self.target)
    c.write_zeros-then-is_zero.new.self (with_page memory c.args.place (unwrap_or (option_copied o) (zero_page memory.table.page_size))))
    (sym c.in-Some-content.is)
    (subst (λ (l : List ℕ). IsFilled (g.F.PlacedFiles.has c.write_zeros-then-is_zero.new.self.target)
    (g.F.PlacedFiles.file c.write_zeros-then-is_zero.new.self.target) c.write_zeros-then-is_zero.new.self (with_page memory c.args.place l))
    (zeros_page page memory.table.page_size (c.is_zero.ensures.0 c.if-is_zero.true) len) (writes memory is place at)))

pub returns-then-is_zero-clause-other : goal.returns-then-is_zero-clause-other
returns-then-is_zero-clause-other g c = on_ok c.write_zeros-then-is_zero.result c.write_zeros-then-is_zero.ensures.other (λ writes memory is none.
    let set : PlaceSet = record { table = memory.table; marked = is.marked } in
    elim ((c.takes.ensures.value set is.has_marks).0 c.if-not-takes.false) [
      | inl place ↦ absurd (none place)
      | inr past ↦ writes memory is past
    ])

pub returns-clause-place : goal.returns-clause-place
returns-clause-place g c = on_ok c.write_page.result c.write_page.ensures.place (λ writes memory is place size.
    let set : PlaceSet = record { table = memory.table; marked = is.marked } in
    let page : List ℕ = c.in-Some-content.page.now in
    let at = offset_is memory.table c.args.place c.args.self.now.page_size c.saturating_mul-at.result (c.takes.ensures.table set is.has_marks) place
    is.same_size c.saturating_mul-at.ensures in
    let low : c.saturating_mul-at.result < 2 ^ 63 =
    omega (arith, at, offset_low memory.table c.args.place (c.takes.ensures.table set is.has_marks) place) in
    let len : length page ≡ memory.table.page_size =
    subst (λ o. IfSome o (λ bytes. length bytes.now ≡ memory.table.page_size)) c.in-Some-content.is size in
    subst (λ o. IsFilled (g.F.PlacedFiles.has c.write_page.new.self.target) (g.F.PlacedFiles.file c.write_page.new.self.target) c.write_page.new.self
    (with_page memory c.args.place (unwrap_or (option_copied o) (zero_page memory.table.page_size)))) (sym c.in-Some-content.is)
    (writes memory is place at low len))

pub returns-clause-other : goal.returns-clause-other
returns-clause-other g c = on_ok c.write_page.result c.write_page.ensures.other (λ writes memory is none.
    let set : PlaceSet = record { table = memory.table; marked = is.marked } in
    elim ((c.takes.ensures.value set is.has_marks).0 c.if-not-takes.false) [
      | inl place ↦ absurd (none place)
      | inr past ↦ writes memory is past
    ])
