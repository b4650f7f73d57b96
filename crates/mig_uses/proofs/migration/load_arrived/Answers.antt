use Rattle.mig_mem.specs.Round.{after}
use Rattle.mig_answer.specs.MultiLoad.{bytes_of}
use Rattle.mig_answer.specs.Sent.{IsSentInAnyOrder, sent_rounds}
use Rattle.mig_uses.proofs.Restoring.{arrived, passed_on, there}
use Rattle.mig_uses.proofs.migration.load_arrived.Goals as goal

pub returns-in_err-verdict : goal.returns-in_err-verdict
returns-in_err-verdict g c = λ table rounds sent size room.
    let whole : IsSentInAnyOrder table c.args.uuid.now rounds c.deref.result.now (bytes_of c.deref-2.result.now) =
    rw (c.deref.ensures.value, c.deref-2.ensures.value) sent in
    let answer = arrived 4096 c.args.uuid.now c.args.limit _ c.load_multi-loaded.result table rounds
    (c.load_multi-loaded.ensures.sent table rounds whole size room) in
    passed_on c.load_multi-loaded.result (after table (sent_rounds rounds)) _ c.from_residual.result _ answer c.in_err-verdict.was c.from_residual.ensures

pub returns : goal.returns
returns g c = λ table rounds sent size room.
    let whole : IsSentInAnyOrder table c.args.uuid.now rounds c.deref.result.now (bytes_of c.deref-2.result.now) =
    rw (c.deref.ensures.value, c.deref-2.ensures.value) sent in
    let answer = arrived 4096 c.args.uuid.now c.args.limit _ c.load_multi-loaded.result table rounds
    (c.load_multi-loaded.ensures.sent table rounds whole size room) in
    there c.load_multi-loaded.result (after table (sent_rounds rounds)) c.in-Some.memory _ answer c.in_ok-verdict.was c.in-Some.is
