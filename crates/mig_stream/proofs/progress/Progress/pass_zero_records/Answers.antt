use Rattle.std.proofs.Common.{◌-◌, ℕ, List, drop, take, length, subst}
use Rattle.mig_stream.specs.Kept.{bytes_of}
use Rattle.mig_stream.specs.Progress.{StreamProgress}
use Rattle.mig_stream.specs.Taking.{HasTaken, HasTakenRecords}
use Rattle.mig_stream.proofs.Writing.{on_err}
use Rattle.mig_stream.proofs.ZeroRecords.{records_none, records_more, records_same, records_stop, records_within, taken_within, tail_from, taken_to}
use Rattle.mig_stream.proofs.progress.Progress.pass_zero_records.Goals as goal
use Rattle.mig_stream.proofs.progress.Progress.pass_zero_records.Goals.{else-runs-test, then-runs-test+in_ok-len+then-len-eq0}

pub returns-in_err-len-clause-err : goal.returns-in_err-len-clause-err
returns-in_err-len-clause-err g c =
    let whole : List ℕ = c.bytes-bytes.result.now in
    let bytes : List ℕ = take c.min.result whole in
    let at : ℕ = c.runs.at in
    let taken : HasTaken c.args.self.now bytes c.zero_run.new.self =
    records_stop c.args.self.now c.runs.self c.zero_run.new.self bytes
    (take (length bytes - at) (drop at bytes)) at c.runs.invariant (tail_from bytes at) c.in_err-len.ensures.err in
    on_err c.from_residual.result _ (subst (λ (x : List ℕ). HasTaken c.args.self.now x c.zero_run.new.self) c.bytes-bytes.ensures
    (taken_within c.args.self.now c.zero_run.new.self whole c.min.result taken))

pub runs-preserved : goal.runs-preserved
runs-preserved g c =
    let whole : List ℕ = c.bytes-bytes.result.now in
    let bytes : List ℕ = take c.min.result whole in
    let at : ℕ = c.runs.at in
    records_more c.args.self.now c.runs.self c.zero_run.new.self bytes
    (take (length bytes - at) (drop at bytes)) at c.in_ok-len.len c.runs.invariant (tail_from bytes at) c.in_ok-len.ensures.ok

pub returns-clause-ok : goal.returns-clause-ok
returns-clause-ok g c =
    let old : StreamProgress = c.args.self.now in
    let new : StreamProgress = c.runs-test.self in
    let whole : List ℕ = c.bytes-bytes.result.now in
    let bytes : List ℕ = take c.min.result whole in
    let at : ℕ = c.runs.at in
    let taken : HasTakenRecords old bytes at new = elim c.runs-test.branch [
      | else-runs-test w ↦ rw w.self-is c.runs.invariant
      | then-runs-test+in_ok-len+then-len-eq0 w ↦
          rw w.self-is (records_same old c.runs.self w.zero_run.new.self bytes
          (take (length bytes - at) (drop at bytes)) at w.in_ok-len.len c.runs.invariant (tail_from bytes at) w.in_ok-len.ensures.ok w.if-len-eq0.true)
    ] in
    taken_to old new (bytes_of c.args.text) (bytes_of c.split_at.result.1) at
    (subst (λ (x : List ℕ). HasTakenRecords old x at new) c.bytes-bytes.ensures (records_within old new whole c.min.result at taken)) c.split_at.ensures.back

pub runs-init : goal.runs-init
runs-init g c = records_none c.args.self.now (take c.min.result c.bytes-bytes.result.now) c.requires
