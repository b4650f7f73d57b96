use Rattle.std.proofs.Common.{◌≡◌, ◌<◌, ◌≤◌, ◌+◌, ◌*◌, ◌∙◌, length, sym, refl, ap, subst, List, ℕ, Err, arith, length-append}
use Rattle.mig_stream.specs.declared.fault.StreamFault.{StreamFault}
use Rattle.mig_stream.specs.declared.item.StreamState.{StreamState}
use Rattle.mig_stream.specs.declared.stop.Stop.{Stop}
use Rattle.mig_stream.specs.declared.stop.Stop.TheVariants.{Fault}
use Rattle.mig_stream.specs.Progress.{StreamProgress}
use Rattle.mig_stream.specs.Items.{size, after_item}
use Rattle.mig_stream.specs.Kept.{bytes_of}
use Rattle.mig_stream.specs.Reading.{Ends, stopped}
use Rattle.mig_stream.specs.Taking.{TakesAs, HasTakenTo}
use Rattle.mig_mem.proofs.PageSizes.{page_size_some}
use Rattle.mig_stream.proofs.Fronts.{work, split_item, goes_on}
use Rattle.mig_stream.proofs.Exists.{work_falls}
use Rattle.mig_stream.proofs.Stopping.{stops}
use Rattle.mig_stream.proofs.Writing.{on_err}
use Rattle.mig_stream.proofs.ZeroRecords.{pages_taken, goes_on_to, stops_within}
use Rattle.mig_stream.proofs.progress.Progress.run_on.Goals as goal

pub items-preserved : goal.items-preserved
items-preserved g c =
    let d = c.items.self in
    let parts = split_item d.page_size d.due (bytes_of c.items.rest) (bytes_of c.split_at.result.0) (bytes_of c.split_at.result.1) c.size-size.result
    (c.items-test.ensures.open refl) (subst (λ (x : List ℕ). c.size-size.result ≡ size d.page_size d.due x) c.bytes-bytes.ensures c.size-size.ensures.size)
    (subst (λ (x : List ℕ). c.size-size.result ≤ length x) c.bytes-bytes.ensures c.if-bytes-size.false) c.split_at.ensures.front c.split_at.ensures.back in
    let taken : HasTakenTo c.args.self.now (bytes_of c.args.text) (bytes_of c.split_at.result.1) c.take.new.self =
    goes_on c.args.self.now d c.take.new.self (bytes_of c.args.text) (bytes_of c.items.rest) (bytes_of c.split_at.result.0) (bytes_of c.split_at.result.1)
    parts.0 parts.1 c.in-Ok.ensures.0 c.in-Ok.ensures.1 c.items.invariant in
    goes_on_to c.args.self.now c.take.new.self c.pass_zeros.new.self (bytes_of c.args.text) (bytes_of c.split_at.result.1)
    (bytes_of c.in_ok-rest-in-Ok.rest) taken
    (pages_taken c.take.new.self c.pass_zeros.new.self (bytes_of c.split_at.result.1) (bytes_of c.in_ok-rest-in-Ok.rest) c.in_ok-rest-in-Ok.ensures.ok)

pub items-smaller : goal.items-smaller
items-smaller g c =
    let d = c.items.self in
    let item : List ℕ = bytes_of c.split_at.result.0 in
    let behind : List ℕ = bytes_of c.split_at.result.1 in
    let parts = split_item d.page_size d.due (bytes_of c.items.rest) item behind c.size-size.result
    (c.items-test.ensures.open refl) (subst (λ (x : List ℕ). c.size-size.result ≡ size d.page_size d.due x) c.bytes-bytes.ensures c.size-size.ensures.size)
    (subst (λ (x : List ℕ). c.size-size.result ≤ length x) c.bytes-bytes.ensures c.if-bytes-size.false) c.split_at.ensures.front c.split_at.ensures.back in
    let some : 0 < d.page_size = page_size_some d.page_size c.size-size.ensures.page_size in
    let taken : work (after_item d d.due item).due < 2 * length item + work d.due =
    work_falls d d.due item some (c.items-test.ensures.open refl) parts.0.is_whole in
    let due : work c.pass_zeros.new.self.due ≡ work (after_item d d.due item).due = ap work c.in_ok-rest-in-Ok.ensures.due
    ∙ ap (λ (x : StreamProgress). work x.due) c.in-Ok.ensures.1 in
    let len : length (bytes_of c.items.rest) ≡ length item + length behind = ap (λ (x : List ℕ). length x) parts.1 ∙ length-append item behind in
    omega (arith, taken, due, len, c.in_ok-rest-in-Ok.ensures.len)

pub returns-in_err-rest-in-Ok-clause-err : goal.returns-in_err-rest-in-Ok-clause-err
returns-in_err-rest-in-Ok-clause-err g c =
    let d = c.items.self in
    let parts = split_item d.page_size d.due (bytes_of c.items.rest) (bytes_of c.split_at.result.0) (bytes_of c.split_at.result.1) c.size-size.result
    (c.items-test.ensures.open refl) (subst (λ (x : List ℕ). c.size-size.result ≡ size d.page_size d.due x) c.bytes-bytes.ensures c.size-size.ensures.size)
    (subst (λ (x : List ℕ). c.size-size.result ≤ length x) c.bytes-bytes.ensures c.if-bytes-size.false) c.split_at.ensures.front c.split_at.ensures.back in
    let taken : HasTakenTo c.args.self.now (bytes_of c.args.text) (bytes_of c.split_at.result.1) c.take.new.self =
    goes_on c.args.self.now d c.take.new.self (bytes_of c.args.text) (bytes_of c.items.rest) (bytes_of c.split_at.result.0) (bytes_of c.split_at.result.1)
    parts.0 parts.1 c.in-Ok.ensures.0 c.in-Ok.ensures.1 c.items.invariant in
    on_err c.from_residual.result _ (stops_within c.args.self.now c.take.new.self c.pass_zeros.new.self (bytes_of c.args.text)
    (bytes_of c.split_at.result.1) taken c.in_err-rest-in-Ok.ensures.err)

pub returns-then-pause-clause-taken : goal.returns-then-pause-clause-taken
returns-then-pause-clause-taken g c =
    let d = c.items.self in
    let parts = split_item d.page_size d.due (bytes_of c.items.rest) (bytes_of c.split_at.result.0) (bytes_of c.split_at.result.1) c.size-size.result
    (c.items-test.ensures.open refl) (subst (λ (x : List ℕ). c.size-size.result ≡ size d.page_size d.due x) c.bytes-bytes.ensures c.size-size.ensures.size)
    (subst (λ (x : List ℕ). c.size-size.result ≤ length x) c.bytes-bytes.ensures c.if-bytes-size.false) c.split_at.ensures.front c.split_at.ensures.back in
    goes_on c.args.self.now d c.take.new.self (bytes_of c.args.text) (bytes_of c.items.rest) (bytes_of c.split_at.result.0) (bytes_of c.split_at.result.1)
    parts.0 parts.1 c.in-Ok.ensures.0 c.in-Ok.ensures.1 c.items.invariant

pub returns-in-Err-Fault-clause-stands : goal.returns-in-Err-Fault-clause-stands
returns-in-Err-Fault-clause-stands g c =
    let d = c.items.self in
    let item : List ℕ = bytes_of c.split_at.result.0 in
    let rest : List ℕ = bytes_of c.items.rest in
    let parts = split_item d.page_size d.due rest item (bytes_of c.split_at.result.1) c.size-size.result
    (c.items-test.ensures.open refl) (subst (λ (x : List ℕ). c.size-size.result ≡ size d.page_size d.due x) c.bytes-bytes.ensures c.size-size.ensures.size)
    (subst (λ (x : List ℕ). c.size-size.result ≤ length x) c.bytes-bytes.ensures c.if-bytes-size.false) c.split_at.ensures.front c.split_at.ensures.back in
    let taken : TakesAs d d.due item c.take.new.self (Err (Fault c.in-Err-Fault.fault)) =
    subst (λ (x : Stop). TakesAs d d.due item c.take.new.self (Err x)) c.in-Err-Fault.field-0-is c.in-Err-Fault.ensures in
    let here : Ends d rest (stopped d item c.in-Err-Fault.fault) =
    stops d item (bytes_of c.split_at.result.1) rest c.in-Err-Fault.fault parts.1 parts.0 taken.0 in
    let there : Ends c.take.new.self rest (stopped c.take.new.self item c.in-Err-Fault.fault) =
    subst (λ (x : StreamProgress). Ends x rest (stopped x item c.in-Err-Fault.fault)) (sym taken.1) here in
    subst (λ (x : StreamState). Ends c.take.new.self rest x) (sym c.stopped.ensures)
    (subst (λ (x : StreamFault). Ends c.take.new.self rest (stopped c.take.new.self item x)) (sym c.in-Err-Fault.fault-is) there)
