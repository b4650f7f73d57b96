use Rattle.std.proofs.Common.{◌≡◌, ◌+◌, ◌<◌, ◌^◌, sym, subst, ap, ◌∙◌, ◌++◌, length, List, ℕ, None, Err, rules}
use Rattle.std.proofs.lemmas.Result.{IfOk-weaker, IfErr-weaker}
use Rattle.mig_stream.specs.declared.fault.StreamFault.{StreamFault}
use Rattle.mig_stream.specs.declared.item.StreamState.TheVariants.{Bad}
use Rattle.mig_stream.specs.declared.stop.Stop.{Stop}
use Rattle.mig_stream.specs.declared.stop.Stop.TheVariants.{Fault}
use Rattle.mig_stream.specs.Items.{size, first_fault, after}
use Rattle.mig_stream.specs.Reading.{IsItem}
use Rattle.mig_stream.specs.Taking.{TakesAs, HasTaken}
use Rattle.mig_stream.specs.Report.{kind_of, with_item, ReportsTo, ReadsReporting, KeepsItems}
use Rattle.mig_stream.proofs.Feeding.{is_due, text_at, taken_behind}
use Rattle.mig_stream.proofs.Reported.{reports_one, keeps_on, piece_short, piece_fault, piece_behind}
use Rattle.mig_stream.proofs.Stopping.{within_item, some_bytes}
use Rattle.mig_stream.proofs.reporting.read_reporting.Goals as goal

pub returns-in_default-clause-ok : goal.returns-in_default-clause-ok
returns-in_default-clause-ok g c =
    piece_short c.in_ok-rest.field-0 c.args.progress.now c.args.pending.now.items c.args.piece.now c.complete.new.pending.items
    c.len.result c.args.report.now (search rules) c.in_default.is c.in_ok-rest.ensures.short

pub returns-in-Ok-clause-ok : goal.returns-in-Ok-clause-ok
returns-in-Ok-clause-ok g c =
    let p = c.args.progress.now in
    let before = c.args.report.now in
    let between = c.take_reporting.new.report in
    let item : List ℕ = c.complete.new.pending.items in
    let rest : List ℕ = c.in-Some.rest.now in
    let text : item ++ rest ≡ c.args.pending.now.items ++ c.args.piece.now =
    text_at c.in_ok-rest.field-0 c.in-Some.rest (λ r. item ++ r.now ≡ c.args.pending.now.items ++ c.args.piece.now) c.in-Some.is c.in_ok-rest.ensures.text in
    let whole : length item ≡ size p.page_size p.due item =
    text_at c.in_ok-rest.field-0 c.in-Some.rest (λ r. length item ≡ size p.page_size p.due item) c.in-Some.is c.in_ok-rest.ensures.whole in
    let is : IsItem p.page_size p.due item = record { is_due = is_due p.page_size p.due c.args.pending.now.items c.requires; is_whole = whole } in
    let free : first_fault p item ≡ None = ap (λ (x : List ℕ). first_fault p x) (sym c.deref.ensures.value) ∙ c.in-Ok.ensures.takes.0 in
    let next : c.take_reporting.new.self ≡ after p item = c.in-Ok.ensures.takes.1 ∙ ap (λ (x : List ℕ). after p x) c.deref.ensures.value in
    let added : before.at + length item < 2 ^ 64 → between ≡ with_item (kind_of p.page_size p.due item) item before =
    subst (λ (x : List ℕ). before.at + length x < 2 ^ 64
    → between ≡ with_item (kind_of p.page_size p.due x) x before) c.deref.ensures.value c.in-Ok.ensures.ok in
    let first : ReportsTo p (item ++ rest) rest c.take_reporting.new.self before between =
    reports_one p c.take_reporting.new.self item rest before between is free next added in
    let last = c.read_in_place_reporting-in-Ok in
    IfOk-weaker last.result (λ t. ReadsReporting c.take_reporting.new.self rest last.new.progress last.new.pending.items t.1 t.0 between last.new.report)
    (λ t. ReadsReporting p (c.args.pending.now.items ++ c.args.piece.now) last.new.progress last.new.pending.items t.1 t.0 before last.new.report)
    (λ t r. subst (λ (x : List ℕ). ReadsReporting p x last.new.progress last.new.pending.items t.1 t.0 before last.new.report) text
    (piece_behind p c.take_reporting.new.self last.new.progress item rest last.new.pending.items t.1 t.0 before between
    last.new.report first r)) last.ensures.ok

pub returns-in-Ok-clause-err : goal.returns-in-Ok-clause-err
returns-in-Ok-clause-err g c =
    let p = c.args.progress.now in
    let before = c.args.report.now in
    let between = c.take_reporting.new.report in
    let item : List ℕ = c.complete.new.pending.items in
    let rest : List ℕ = c.in-Some.rest.now in
    let text : item ++ rest ≡ c.args.pending.now.items ++ c.args.piece.now =
    text_at c.in_ok-rest.field-0 c.in-Some.rest (λ r. item ++ r.now ≡ c.args.pending.now.items ++ c.args.piece.now) c.in-Some.is c.in_ok-rest.ensures.text in
    let whole : length item ≡ size p.page_size p.due item =
    text_at c.in_ok-rest.field-0 c.in-Some.rest (λ r. length item ≡ size p.page_size p.due item) c.in-Some.is c.in_ok-rest.ensures.whole in
    let is : IsItem p.page_size p.due item = record { is_due = is_due p.page_size p.due c.args.pending.now.items c.requires; is_whole = whole } in
    let free : first_fault p item ≡ None = ap (λ (x : List ℕ). first_fault p x) (sym c.deref.ensures.value) ∙ c.in-Ok.ensures.takes.0 in
    let next : c.take_reporting.new.self ≡ after p item = c.in-Ok.ensures.takes.1 ∙ ap (λ (x : List ℕ). after p x) c.deref.ensures.value in
    let last = c.read_in_place_reporting-in-Ok in
    IfErr-weaker last.result (λ _. HasTaken c.take_reporting.new.self rest last.new.progress)
    (λ _. HasTaken p (c.args.pending.now.items ++ c.args.piece.now) last.new.progress)
    (λ _ t. subst (λ (x : List ℕ). HasTaken p x last.new.progress) text
    (taken_behind p c.take_reporting.new.self last.new.progress item rest is free next t)) last.ensures.err

pub returns-in-Ok-clause-items : goal.returns-in-Ok-clause-items
returns-in-Ok-clause-items g c =
    let last = c.read_in_place_reporting-in-Ok in
    IfErr-weaker last.result (λ _. KeepsItems c.take_reporting.new.report last.new.report) (λ _. KeepsItems c.args.report.now last.new.report)
    (λ _ k. keeps_on c.args.report.now c.take_reporting.new.report last.new.report c.take_reporting.ensures.kept k) last.ensures.items

pub returns-in-Err-Fault-clause-ok : goal.returns-in-Err-Fault-clause-ok
returns-in-Err-Fault-clause-ok g c =
    let p = c.args.progress.now in
    let before = c.args.report.now in
    let between = c.take_reporting.new.report in
    let item : List ℕ = c.complete.new.pending.items in
    let rest : List ℕ = c.in-Some.rest.now in
    let text : item ++ rest ≡ c.args.pending.now.items ++ c.args.piece.now =
    text_at c.in_ok-rest.field-0 c.in-Some.rest (λ r. item ++ r.now ≡ c.args.pending.now.items ++ c.args.piece.now) c.in-Some.is c.in_ok-rest.ensures.text in
    let whole : length item ≡ size p.page_size p.due item =
    text_at c.in_ok-rest.field-0 c.in-Some.rest (λ r. length item ≡ size p.page_size p.due item) c.in-Some.is c.in_ok-rest.ensures.whole in
    let is : IsItem p.page_size p.due item = record { is_due = is_due p.page_size p.due c.args.pending.now.items c.requires; is_whole = whole } in
    let taken : TakesAs p p.due c.deref.result.now c.take_reporting.new.self (Err (Fault c.in-Err-Fault.fault)) =
    subst (λ (x : Stop). TakesAs p p.due c.deref.result.now c.take_reporting.new.self (Err x)) c.in-Err-Fault.field-0-is c.in-Err-Fault.ensures.takes in
    let len : c.len-in-Err-Fault.result ≡ length item = search rules in
    let read = piece_fault p c.take_reporting.new.self (c.args.pending.now.items ++ c.args.piece.now) item rest item
    (c.len-in-Err-Fault.result + length rest) c.in-Err-Fault.fault before between
    (ap (λ (x : ℕ). x + length rest) len) text is
    (ap (λ (x : List ℕ). first_fault p x) (sym c.deref.ensures.value) ∙ taken.0)
    (within_item p c.args.pending.now.items item c.requires (some_bytes _ _ _ c.is_empty.ensures c.if-is_empty.false (search rules)))
    taken.1 c.in-Err-Fault.ensures.err in
    subst (λ (x : StreamFault). ReadsReporting p (c.args.pending.now.items ++ c.args.piece.now) c.take_reporting.new.self item
    (c.len-in-Err-Fault.result + length rest) (Bad x) before between) (sym c.in-Err-Fault.fault-is) read
