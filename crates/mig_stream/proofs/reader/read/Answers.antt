use Rattle.std.proofs.Common.{◌≡◌, sym, subst, ap, ◌∙◌, ◌++◌, ◌+◌, length, List, ℕ, None, Err, rules}
use Rattle.std.proofs.lemmas.Result.{IfOk-weaker, IfErr-weaker}
use Rattle.mig_stream.specs.declared.fault.StreamFault.{StreamFault}
use Rattle.mig_stream.specs.declared.item.StreamState.TheVariants.{Bad}
use Rattle.mig_stream.specs.declared.stop.Stop.{Stop}
use Rattle.mig_stream.specs.declared.stop.Stop.TheVariants.{Fault}
use Rattle.mig_stream.specs.Items.{size, first_fault, after}
use Rattle.mig_stream.specs.Reading.{IsItem}
use Rattle.mig_stream.specs.Taking.{TakesAs, HasTaken}
use Rattle.mig_stream.specs.Reader.{ReadsOn}
use Rattle.mig_stream.proofs.Feeding.{is_due, still_short, text_at, whole_fault, reads_behind, taken_behind}
use Rattle.mig_stream.proofs.Stopping.{within_item, some_bytes}
use Rattle.mig_stream.proofs.reader.read.Goals as goal

pub returns-in_default-clause-ok : goal.returns-in_default-clause-ok
returns-in_default-clause-ok g c =
    still_short c.in_ok-rest.field-0 c.args.progress.now c.args.pending.now.items c.args.piece.now c.complete.new.pending.items
    c.len.result (search rules) c.in_default.is c.in_ok-rest.ensures.short

pub returns-in-Ok-clause-ok : goal.returns-in-Ok-clause-ok
returns-in-Ok-clause-ok g c =
    let p = c.args.progress.now in
    let item : List ℕ = c.complete.new.pending.items in
    let text : item ++ c.in-Some.rest.now ≡ c.args.pending.now.items ++ c.args.piece.now =
    text_at c.in_ok-rest.field-0 c.in-Some.rest (λ r. item ++ r.now ≡ c.args.pending.now.items ++ c.args.piece.now) c.in-Some.is c.in_ok-rest.ensures.text in
    let whole : length item ≡ size p.page_size p.due item =
    text_at c.in_ok-rest.field-0 c.in-Some.rest (λ r. length item ≡ size p.page_size p.due item) c.in-Some.is c.in_ok-rest.ensures.whole in
    let is : IsItem p.page_size p.due item = record { is_due = is_due p.page_size p.due c.args.pending.now.items c.requires; is_whole = whole } in
    let free : first_fault p item ≡ None = ap (λ (x : List ℕ). first_fault p x) (sym c.deref.ensures.value) ∙ c.in-Ok.ensures.0 in
    let next : c.take.new.self ≡ after p item = c.in-Ok.ensures.1 ∙ ap (λ (x : List ℕ). after p x) c.deref.ensures.value in
    IfOk-weaker c.read_in_place-in-Ok.result
    (λ t. ReadsOn c.take.new.self c.in-Some.rest.now c.read_in_place-in-Ok.new.progress c.read_in_place-in-Ok.new.pending.items t.1 t.0)
    (λ t. ReadsOn p (c.args.pending.now.items ++ c.args.piece.now) c.read_in_place-in-Ok.new.progress c.read_in_place-in-Ok.new.pending.items t.1 t.0)
    (λ t r. subst (λ (x : List ℕ). ReadsOn p x c.read_in_place-in-Ok.new.progress c.read_in_place-in-Ok.new.pending.items t.1 t.0) text
    (reads_behind p c.take.new.self c.read_in_place-in-Ok.new.progress item c.in-Some.rest.now
    c.read_in_place-in-Ok.new.pending.items t.1 t.0 is free next r)) c.read_in_place-in-Ok.ensures.ok

pub returns-in-Ok-clause-err : goal.returns-in-Ok-clause-err
returns-in-Ok-clause-err g c =
    let p = c.args.progress.now in
    let item : List ℕ = c.complete.new.pending.items in
    let text : item ++ c.in-Some.rest.now ≡ c.args.pending.now.items ++ c.args.piece.now =
    text_at c.in_ok-rest.field-0 c.in-Some.rest (λ r. item ++ r.now ≡ c.args.pending.now.items ++ c.args.piece.now) c.in-Some.is c.in_ok-rest.ensures.text in
    let whole : length item ≡ size p.page_size p.due item =
    text_at c.in_ok-rest.field-0 c.in-Some.rest (λ r. length item ≡ size p.page_size p.due item) c.in-Some.is c.in_ok-rest.ensures.whole in
    let is : IsItem p.page_size p.due item = record { is_due = is_due p.page_size p.due c.args.pending.now.items c.requires; is_whole = whole } in
    let free : first_fault p item ≡ None = ap (λ (x : List ℕ). first_fault p x) (sym c.deref.ensures.value) ∙ c.in-Ok.ensures.0 in
    let next : c.take.new.self ≡ after p item = c.in-Ok.ensures.1 ∙ ap (λ (x : List ℕ). after p x) c.deref.ensures.value in
    IfErr-weaker c.read_in_place-in-Ok.result
    (λ _. HasTaken c.take.new.self c.in-Some.rest.now c.read_in_place-in-Ok.new.progress)
    (λ _. HasTaken p (c.args.pending.now.items ++ c.args.piece.now) c.read_in_place-in-Ok.new.progress)
    (λ _ t. subst (λ (x : List ℕ). HasTaken p x c.read_in_place-in-Ok.new.progress) text
    (taken_behind p c.take.new.self c.read_in_place-in-Ok.new.progress item c.in-Some.rest.now is free next t)) c.read_in_place-in-Ok.ensures.err

pub returns-in-Err-Fault-clause-ok : goal.returns-in-Err-Fault-clause-ok
returns-in-Err-Fault-clause-ok g c =
    let p = c.args.progress.now in
    let item : List ℕ = c.complete.new.pending.items in
    let text : item ++ c.in-Some.rest.now ≡ c.args.pending.now.items ++ c.args.piece.now =
    text_at c.in_ok-rest.field-0 c.in-Some.rest (λ r. item ++ r.now ≡ c.args.pending.now.items ++ c.args.piece.now) c.in-Some.is c.in_ok-rest.ensures.text in
    let whole : length item ≡ size p.page_size p.due item =
    text_at c.in_ok-rest.field-0 c.in-Some.rest (λ r. length item ≡ size p.page_size p.due item) c.in-Some.is c.in_ok-rest.ensures.whole in
    let is : IsItem p.page_size p.due item = record { is_due = is_due p.page_size p.due c.args.pending.now.items c.requires; is_whole = whole } in
    let taken : TakesAs p p.due c.deref.result.now c.take.new.self (Err (Fault c.in-Err-Fault.fault)) =
    subst (λ (x : Stop). TakesAs p p.due c.deref.result.now c.take.new.self (Err x)) c.in-Err-Fault.field-0-is c.in-Err-Fault.ensures in
    let len : c.len-in-Err-Fault.result ≡ length item = search rules in
    let read = whole_fault p c.take.new.self c.args.pending.now.items c.args.piece.now item c.in-Some.rest.now item
    (c.len-in-Err-Fault.result + length c.in-Some.rest.now) c.in-Err-Fault.fault
    (ap (λ (x : ℕ). x + length c.in-Some.rest.now) len) text is (ap (λ (x : List ℕ). first_fault p x) (sym c.deref.ensures.value) ∙ taken.0)
    (within_item p c.args.pending.now.items item c.requires (some_bytes _ _ _ c.is_empty.ensures c.if-is_empty.false (search rules))) taken.1 in
    subst (λ (x : StreamFault). ReadsOn p (c.args.pending.now.items ++ c.args.piece.now) c.take.new.self item
    (c.len-in-Err-Fault.result + length c.in-Some.rest.now) (Bad x)) (sym c.in-Err-Fault.fault-is) read
