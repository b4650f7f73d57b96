use Rattle.std.proofs.Common.{ℕ, ◌≡◌, ◌+◌, ◌/◌, ◌∙◌, List, take, ap, sym, subst}
use Rattle.std.specs.Vec.{with_items}
use Rattle.std.proofs.lemmas.List.{with_items_is}
use Rattle.mig_mem.specs.Bitmaps.{IsRowOf}
use Rattle.mig_mem.proofs.BitmapRows.{row_of}
use Rattle.mig_mem.proofs.bitmaps.row.Goals as goal

pub returns : goal.returns
returns g c =
    let v = c.extend_from_slice.new.self in
    let new = c.clear_after.new.words in
    let front = c.deref_mut.result.now in
    let held : (with_items v new).items ≡ new = with_items_is v new (c.clear_after.auto.words ∙ c.deref_mut.ensures.len) in
    let bitmap = c.args.bitmap.now in
    let is : front ≡ take ((c.args.pages + 63) / 64) bitmap =
    c.deref_mut.ensures.value ∙ c.in_ok-extend_from_slice.ensures.items
    ∙ rw c.in_ok-words.ensures.items (ap (λ (n : ℕ). take n bitmap) c.words_for-count.ensures) in
    subst (λ (l : List ℕ). IsRowOf bitmap c.args.pages l) (sym held)
    (row_of bitmap front new c.args.pages c.requires is c.clear_after.auto.words c.clear_after.ensures)
