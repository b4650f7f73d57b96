use Rattle.std.proofs.Common.{◌-◌, ◌^◌, take, ◌≡◌, ◌<◌, ◌≤◌, ◌+◌, ◌*◌, ◌∙◌, length, sym, refl, ap, subst, List, ℕ, Err, arith, length-append}
use Rattle.mig_stream.specs.declared.fault.StreamFault.{StreamFault}
use Rattle.mig_stream.specs.declared.item.StreamState.{StreamState}
use Rattle.mig_stream.specs.declared.stop.Stop.{Stop}
use Rattle.mig_stream.specs.declared.stop.Stop.TheVariants.{Fault}
use Rattle.mig_stream.specs.Progress.{StreamProgress}
use Rattle.mig_stream.specs.Items.{size, after_item}
use Rattle.mig_stream.specs.Kept.{bytes_of}
use Rattle.mig_stream.specs.Reading.{Ends, stopped}
use Rattle.mig_stream.specs.Taking.{TakesAs}
use Rattle.mig_mem.proofs.PageSizes.{page_size_some}
use Rattle.mig_stream.proofs.Fronts.{work, split_item}
use Rattle.mig_stream.proofs.Exists.{work_falls}
use Rattle.mig_stream.proofs.Stopping.{stops}
use Rattle.mig_stream.specs.Report.{ItemAt, Reported, ReportsTo}
use Rattle.mig_stream.proofs.Writing.{on_err}
use Rattle.mig_stream.proofs.ZeroRecords.{stops_within}
use Rattle.mig_stream.proofs.Reported.{reports_none, reports_push, reports_append, reports_pages, reports_taken, keeps_all, keeps_on}
use Rattle.mig_stream.proofs.progress.Progress.run_reporting.Goals as goal

pub items-init : goal.items-init
items-init g c = (reports_none c.args.self.now (bytes_of c.args.text) c.args.report.now, keeps_all c.args.report.now)

pub items-preserved : goal.items-preserved
items-preserved g c =
    let d = c.items.self in
    let item : List ℕ = bytes_of c.split_at.result.0 in
    let behind : List ℕ = bytes_of c.split_at.result.1 in
    let parts = split_item d.page_size d.due (bytes_of c.items.rest) item behind c.size-size.result
    (c.items-test.ensures.open refl) (subst (λ (x : List ℕ). c.size-size.result ≡ size d.page_size d.due x) c.bytes-bytes.ensures c.size-size.ensures.size)
    (subst (λ (x : List ℕ). c.size-size.result ≤ length x) c.bytes-bytes.ensures c.if-bytes-size.false) c.split_at.ensures.front c.split_at.ensures.back in
    let between : Reported = c.take_reporting.new.report in
    let taken : ReportsTo c.args.self.now (bytes_of c.args.text) behind c.take_reporting.new.self c.args.report.now between =
    reports_push c.args.self.now d c.take_reporting.new.self (bytes_of c.args.text) (bytes_of c.items.rest) item behind c.args.report.now c.items.report between
    parts.0 parts.1 c.in-Ok.ensures.takes.0 c.in-Ok.ensures.takes.1 c.in-Ok.ensures.ok c.items.invariant.0 in
    let rest : List ℕ = bytes_of c.in_ok-rest-in-Ok.rest in
    let few : length rest ≤ length behind = c.in_ok-rest-in-Ok.ensures.len in
    let moved : between.at + length behind < 2 ^ 64 → c.skip.new.self ≡ record between { at = between.at + length behind - length rest } = λ small.
    let all : length c.bytes-len.result.now ≡ length behind = ap (λ (l : List ℕ). length l) c.bytes-len.ensures in
    let left : length c.bytes.result.now ≡ length rest = ap (λ (l : List ℕ). length l) c.bytes.ensures in
    let fits : between.at + (length c.bytes-len.result.now - length c.bytes.result.now) < 2 ^ 64 = omega (arith, small, few, all, left) in
    let same : between.at + (length c.bytes-len.result.now - length c.bytes.result.now) ≡ between.at
    + length behind - length rest = omega (arith, few, all, left) in
    c.skip.ensures.at fits ∙ ap (λ (n : ℕ). record between { at = n }) same in
    let skipped : ReportsTo c.take_reporting.new.self behind rest c.pass_zeros.new.self between c.skip.new.self =
    reports_pages c.take_reporting.new.self c.pass_zeros.new.self behind rest between c.skip.new.self c.in_ok-rest-in-Ok.ensures.ok moved in (
      reports_append c.args.self.now c.take_reporting.new.self c.pass_zeros.new.self
          (bytes_of c.args.text) behind rest c.args.report.now between c.skip.new.self taken skipped,
      keeps_on c.args.report.now c.items.report c.skip.new.self c.items.invariant.1
          (ap (λ (l : List ItemAt). take (length c.items.report.items) l) c.skip.ensures.items ∙ c.in-Ok.ensures.kept),
    )

pub items-smaller : goal.items-smaller
items-smaller g c =
    let d = c.items.self in
    let item : List ℕ = bytes_of c.split_at.result.0 in
    let behind : List ℕ = bytes_of c.split_at.result.1 in
    let parts = split_item d.page_size d.due (bytes_of c.items.rest) item behind c.size-size.result
    (c.items-test.ensures.open refl) (subst (λ (x : List ℕ). c.size-size.result ≡ size d.page_size d.due x) c.bytes-bytes.ensures c.size-size.ensures.size)
    (subst (λ (x : List ℕ). c.size-size.result ≤ length x) c.bytes-bytes.ensures c.if-bytes-size.false) c.split_at.ensures.front c.split_at.ensures.back in
    let some : 0 < d.page_size = page_size_some d.page_size c.size-size.ensures.page_size in
    let taken : work (after_item d d.due item).due < 2 * length item + work d.due =
    work_falls d d.due item some (c.items-test.ensures.open refl) parts.0.is_whole in
    let due : work c.pass_zeros.new.self.due ≡ work (after_item d d.due item).due = ap work c.in_ok-rest-in-Ok.ensures.due
    ∙ ap (λ (x : StreamProgress). work x.due) c.in-Ok.ensures.takes.1 in
    let len : length (bytes_of c.items.rest) ≡ length item + length behind = ap (λ (x : List ℕ). length x) parts.1 ∙ length-append item behind in
    omega (arith, taken, due, len, c.in_ok-rest-in-Ok.ensures.len)

pub returns-then-pause-clause-reports : goal.returns-then-pause-clause-reports
returns-then-pause-clause-reports g c =
    let d = c.items.self in
    let item : List ℕ = bytes_of c.split_at.result.0 in
    let behind : List ℕ = bytes_of c.split_at.result.1 in
    let parts = split_item d.page_size d.due (bytes_of c.items.rest) item behind c.size-size.result
    (c.items-test.ensures.open refl) (subst (λ (x : List ℕ). c.size-size.result ≡ size d.page_size d.due x) c.bytes-bytes.ensures c.size-size.ensures.size)
    (subst (λ (x : List ℕ). c.size-size.result ≤ length x) c.bytes-bytes.ensures c.if-bytes-size.false) c.split_at.ensures.front c.split_at.ensures.back in
    reports_push c.args.self.now d c.take_reporting.new.self (bytes_of c.args.text)
    (bytes_of c.items.rest) item behind c.args.report.now c.items.report c.take_reporting.new.report
    parts.0 parts.1 c.in-Ok.ensures.takes.0 c.in-Ok.ensures.takes.1 c.in-Ok.ensures.ok c.items.invariant.0

pub returns-in-Err-Fault-clause-stands : goal.returns-in-Err-Fault-clause-stands
returns-in-Err-Fault-clause-stands g c =
    let d = c.items.self in
    let item : List ℕ = bytes_of c.split_at.result.0 in
    let behind : List ℕ = bytes_of c.split_at.result.1 in
    let parts = split_item d.page_size d.due (bytes_of c.items.rest) item behind c.size-size.result
    (c.items-test.ensures.open refl) (subst (λ (x : List ℕ). c.size-size.result ≡ size d.page_size d.due x) c.bytes-bytes.ensures c.size-size.ensures.size)
    (subst (λ (x : List ℕ). c.size-size.result ≤ length x) c.bytes-bytes.ensures c.if-bytes-size.false) c.split_at.ensures.front c.split_at.ensures.back in
    let taken : TakesAs d d.due item c.take_reporting.new.self (Err (Fault c.in-Err-Fault.fault)) =
    subst (λ (x : Stop). TakesAs d d.due item c.take_reporting.new.self (Err x)) c.in-Err-Fault.field-0-is c.in-Err-Fault.ensures.takes in
    let rest : List ℕ = bytes_of c.items.rest in
    let here : Ends d rest (stopped d item c.in-Err-Fault.fault) = stops d item behind rest c.in-Err-Fault.fault parts.1 parts.0 taken.0 in
    let there : Ends c.take_reporting.new.self rest (stopped c.take_reporting.new.self item c.in-Err-Fault.fault) =
    subst (λ (x : StreamProgress). Ends x rest (stopped x item c.in-Err-Fault.fault)) (sym taken.1) here in
    subst (λ (x : StreamState). Ends c.take_reporting.new.self rest x) (sym c.stopped.ensures)
    (subst (λ (x : StreamFault). Ends c.take_reporting.new.self rest (stopped c.take_reporting.new.self item x)) (sym c.in-Err-Fault.fault-is) there)

pub returns-then-pause-clause-kept : goal.returns-then-pause-clause-kept
returns-then-pause-clause-kept g c = keeps_on c.args.report.now c.items.report c.take_reporting.new.report c.items.invariant.1 c.in-Ok.ensures.kept

pub returns-in_err-rest-in-Ok-clause-err : goal.returns-in_err-rest-in-Ok-clause-err
returns-in_err-rest-in-Ok-clause-err g c =
    let d = c.items.self in
    let item : List ℕ = bytes_of c.split_at.result.0 in
    let behind : List ℕ = bytes_of c.split_at.result.1 in
    let parts = split_item d.page_size d.due (bytes_of c.items.rest) item behind c.size-size.result
    (c.items-test.ensures.open refl) (subst (λ (x : List ℕ). c.size-size.result ≡ size d.page_size d.due x) c.bytes-bytes.ensures c.size-size.ensures.size)
    (subst (λ (x : List ℕ). c.size-size.result ≤ length x) c.bytes-bytes.ensures c.if-bytes-size.false) c.split_at.ensures.front c.split_at.ensures.back in
    let between : Reported = c.take_reporting.new.report in
    let taken : ReportsTo c.args.self.now (bytes_of c.args.text) behind c.take_reporting.new.self c.args.report.now between =
    reports_push c.args.self.now d c.take_reporting.new.self (bytes_of c.args.text) (bytes_of c.items.rest) item behind c.args.report.now c.items.report between
    parts.0 parts.1 c.in-Ok.ensures.takes.0 c.in-Ok.ensures.takes.1 c.in-Ok.ensures.ok c.items.invariant.0 in
    on_err c.from_residual.result _ (stops_within c.args.self.now c.take_reporting.new.self c.pass_zeros.new.self (bytes_of c.args.text) behind
    (reports_taken c.args.self.now c.take_reporting.new.self (bytes_of c.args.text) behind c.args.report.now between taken) c.in_err-rest-in-Ok.ensures.err)

pub returns-in_err-rest-in-Ok-clause-kept : goal.returns-in_err-rest-in-Ok-clause-kept
returns-in_err-rest-in-Ok-clause-kept g c = keeps_on c.args.report.now c.items.report c.take_reporting.new.report c.items.invariant.1 c.in-Ok.ensures.kept
