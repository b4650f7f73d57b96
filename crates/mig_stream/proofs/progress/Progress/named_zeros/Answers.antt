use Rattle.std.proofs.Common.{◌-◌, ℕ, List, drop, take, length, refl}
use Rattle.mig_stream.proofs.Writing.{on_err}
use Rattle.mig_stream.proofs.ZeroRecords.{records_none, records_more, records_same, records_stop, nothing_more, tail_from}
use Rattle.mig_stream.proofs.progress.Progress.named_zeros.Goals as goal

pub returns-in_err-len-clause-err : goal.returns-in_err-len-clause-err
returns-in_err-len-clause-err g c =
    let bytes : List ℕ = c.args.bytes.now in
    let at : ℕ = c.records.at in
    on_err c.from_residual.result _ (records_stop c.args.self.now c.records.self c.named_zero.new.self bytes (drop at bytes) at c.records.invariant refl
    (nothing_more c.records.self c.named_zero.new.self (drop at bytes) c.in_err-len.ensures.err))

pub records-preserved : goal.records-preserved
records-preserved g c =
    let bytes : List ℕ = c.args.bytes.now in
    let at : ℕ = c.records.at in
    records_more c.args.self.now c.records.self c.named_zero.new.self bytes
    (take (length bytes - at) (drop at bytes)) at c.in_ok-len.len c.records.invariant (tail_from bytes at) c.in_ok-len.ensures.ok

pub returns-then-len-eq0-clause-ok : goal.returns-then-len-eq0-clause-ok
returns-then-len-eq0-clause-ok g c =
    let bytes : List ℕ = c.args.bytes.now in
    let at : ℕ = c.records.at in
    records_same c.args.self.now c.records.self c.named_zero.new.self bytes
    (take (length bytes - at) (drop at bytes)) at c.in_ok-len.len c.records.invariant (tail_from bytes at) c.in_ok-len.ensures.ok c.if-len-eq0.true

pub records-init : goal.records-init
records-init g c = records_none c.args.self.now c.args.bytes.now c.requires.due
