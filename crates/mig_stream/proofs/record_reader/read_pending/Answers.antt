use Rattle.std.proofs.Common.{◌≡◌, ◌++◌, length, List, ℕ, None, sym, subst, ap, ◌∙◌}
use Rattle.mig_stream.specs.Progress.{StreamProgress}
use Rattle.mig_stream.specs.Items.{size, first_fault, after}
use Rattle.mig_stream.specs.Reading.{IsItem, Front}
use Rattle.mig_stream.proofs.Feeding.{is_due, text_at, front_item}
use Rattle.mig_stream.proofs.record_reader.read_pending.Goals as goal

pub returns-in-Ok-clause-taken : goal.returns-in-Ok-clause-taken
returns-in-Ok-clause-taken g c =
    let p = c.args.progress.now in
    let item : List ℕ = c.complete.new.pending.items in
    let text : item ++ c.in-Some.rest.now ≡ c.args.pending.now.items ++ c.args.piece.now =
    text_at c.in_ok-rest.field-0 c.in-Some.rest (λ r. item ++ r.now ≡ c.args.pending.now.items ++ c.args.piece.now) c.in-Some.is c.in_ok-rest.ensures.text in
    let whole : length item ≡ size p.page_size p.due item =
    text_at c.in_ok-rest.field-0 c.in-Some.rest (λ r. length item ≡ size p.page_size p.due item) c.in-Some.is c.in_ok-rest.ensures.whole in
    let is : IsItem p.page_size p.due item = record { is_due = is_due p.page_size p.due c.args.pending.now.items c.requires.part; is_whole = whole } in
    let free : first_fault p item ≡ None = ap (λ (x : List ℕ). first_fault p x) (sym c.deref.ensures.value) ∙ c.in-Ok.ensures.0 in
    let next : c.take.new.self ≡ after p item = c.in-Ok.ensures.1 ∙ ap (λ (x : List ℕ). after p x) c.deref.ensures.value in (
      item,
      sym text ∙ ap (λ (x : List ℕ). item ++ (x ++ c.in-Some.rest.now)) (sym c.clear.ensures.items),
      subst (λ (x : StreamProgress). Front p item x) (sym next) (front_item p item is free),
    )
