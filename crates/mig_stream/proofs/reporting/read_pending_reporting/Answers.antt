use Rattle.std.proofs.Common.{◌≡◌, ◌+◌, ◌<◌, ◌^◌, ◌++◌, length, List, ℕ, None, Err, refl, sym, subst, ap, ◌∙◌}
use Rattle.std.proofs.lemmas.List.{append-nil}
use Rattle.mig_stream.specs.declared.stop.Stop.{Stop}
use Rattle.mig_stream.specs.declared.stop.Stop.TheVariants.{Fault}
use Rattle.mig_stream.specs.Items.{size, first_fault, after}
use Rattle.mig_stream.specs.Reading.{IsItem}
use Rattle.mig_stream.specs.Taking.{TakesAs}
use Rattle.mig_stream.specs.Reader.{IsUnfinished}
use Rattle.mig_stream.specs.Report.{kind_of, with_item, ReportsTo}
use Rattle.mig_stream.proofs.Feeding.{is_due, text_at}
use Rattle.mig_stream.proofs.Reported.{reports_one, reports_same, none_at}
use Rattle.mig_stream.proofs.reporting.read_pending_reporting.Goals as goal

pub returns-in_default-clause-reports : goal.returns-in_default-clause-reports
returns-in_default-clause-reports g c =
    let p = c.args.progress.now in
    let all : List ℕ = c.args.pending.now.items ++ c.args.piece.now in
    let short = none_at c.in_ok-rest.field-0
    ((c.complete.new.pending.items ≡ all) × IsUnfinished p c.complete.new.pending.items) c.in_default.is c.in_ok-rest.ensures.short in
    reports_same p p all _ c.args.report.now c.args.report.now refl (append-nil c.complete.new.pending.items ∙ short.0) refl

pub returns-in-Ok-clause-reports : goal.returns-in-Ok-clause-reports
returns-in-Ok-clause-reports g c =
    let p = c.args.progress.now in
    let before = c.args.report.now in
    let now = c.take_reporting.new.report in
    let item : List ℕ = c.complete.new.pending.items in
    let rest : List ℕ = c.in-Some.rest.now in
    let text : item ++ rest ≡ c.args.pending.now.items ++ c.args.piece.now =
    text_at c.in_ok-rest.field-0 c.in-Some.rest (λ r. item ++ r.now ≡ c.args.pending.now.items ++ c.args.piece.now) c.in-Some.is c.in_ok-rest.ensures.text in
    let whole : length item ≡ size p.page_size p.due item =
    text_at c.in_ok-rest.field-0 c.in-Some.rest (λ r. length item ≡ size p.page_size p.due item) c.in-Some.is c.in_ok-rest.ensures.whole in
    let is : IsItem p.page_size p.due item = record { is_due = is_due p.page_size p.due c.args.pending.now.items c.requires.part; is_whole = whole } in
    let free : first_fault p item ≡ None = ap (λ (x : List ℕ). first_fault p x) (sym c.deref.ensures.value) ∙ c.in-Ok.ensures.takes.0 in
    let next : c.take_reporting.new.self ≡ after p item = c.in-Ok.ensures.takes.1 ∙ ap (λ (x : List ℕ). after p x) c.deref.ensures.value in
    let added : before.at + length item < 2 ^ 64 → now ≡ with_item (kind_of p.page_size p.due item) item before =
    subst (λ (x : List ℕ). before.at + length x < 2 ^ 64 → now ≡ with_item (kind_of p.page_size p.due x) x before) c.deref.ensures.value c.in-Ok.ensures.ok in
    subst (λ (x : List ℕ). ReportsTo p x (c.clear.new.self.items ++ rest) c.take_reporting.new.self before now) text
    (subst (λ (x : List ℕ). ReportsTo p (item ++ rest) (x ++ rest) c.take_reporting.new.self before now) (sym c.clear.ensures.items)
    (reports_one p c.take_reporting.new.self item rest before now is free next added))

pub returns-in-Err-Fault-clause-reports : goal.returns-in-Err-Fault-clause-reports
returns-in-Err-Fault-clause-reports g c =
    let p = c.args.progress.now in
    let item : List ℕ = c.complete.new.pending.items in
    let text : item ++ c.in-Some.rest.now ≡ c.args.pending.now.items ++ c.args.piece.now =
    text_at c.in_ok-rest.field-0 c.in-Some.rest (λ r. item ++ r.now ≡ c.args.pending.now.items ++ c.args.piece.now) c.in-Some.is c.in_ok-rest.ensures.text in
    let taken : TakesAs p p.due c.deref.result.now c.take_reporting.new.self (Err (Fault c.in-Err-Fault.fault)) =
    subst (λ (x : Stop). TakesAs p p.due c.deref.result.now c.take_reporting.new.self (Err x)) c.in-Err-Fault.field-0-is c.in-Err-Fault.ensures.takes in
    reports_same p c.take_reporting.new.self _ _ c.args.report.now c.take_reporting.new.report taken.1 text c.in-Err-Fault.ensures.err
