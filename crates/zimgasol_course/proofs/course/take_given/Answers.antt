use Rattle.std.proofs.Common.{◌≡◌, arith, true, take, length, subst, ap, ◌∙◌}
use Rattle.std.proofs.Math.Seq.{take-length}
use Rattle.mig_stream.specs.Round.{RoundOfRecords}
use Rattle.zimgasol_course.specs.Course.{Puts}
use Rattle.zimgasol_course.proofs.Seeing.{still_on}
use Rattle.zimgasol_course.proofs.Taking.{puts_none, puts_more, puts_whole}
use Rattle.zimgasol_course.proofs.course.take_given.Goals as goal

pub loop-i-init : goal.loop-i-init
loop-i-init g c = record { put = puts_none (g.T.Taker.holds c.args.taker.now) _; seen = λ seen had. had }

pub loop-i-preserved : goal.loop-i-preserved
loop-i-preserved g c = record {
  put = puts_more (g.T.Taker.holds c.args.taker.now) (g.T.Taker.holds c.loop-i.taker) (g.T.Taker.holds c.put.new.self) c.given-given.result.now c.loop-i.i
      c.record.result.0 c.record.result.1 (omega arith)
      c.record.ensures.place c.record.ensures.content c.record.ensures.size c.in_ok-put.ensures.ok c.loop-i.invariant.put;
  seen = still_on (g.T.Taker.sees c.args.taker.now) (g.T.Taker.sees c.loop-i.taker) (g.T.Taker.sees c.put.new.self) c.loop-i.invariant.seen
      c.in_ok-put.ensures.seen;
}

pub returns-clause-ok : goal.returns-clause-ok
returns-clause-ok g c =
    let end : c.loop-i.i ≡ length c.given-given.result.now.records = omega (arith, c.loop-i-test.false, c.loop-i.auto.i-end, c.len-count.ensures) in
    let whole : take c.loop-i.i c.given-given.result.now.records ≡ c.given-given.result.now.records =
    ap (λ n. take n c.given-given.result.now.records) end ∙ take-length c.given-given.result.now.records in
    subst (λ (x : RoundOfRecords). Puts true (g.T.Taker.holds c.args.taker.now) (g.T.Taker.holds c.loop-i.taker) x) c.given-given.ensures
    (puts_whole (g.T.Taker.holds c.args.taker.now) (g.T.Taker.holds c.loop-i.taker) c.given-given.result.now c.loop-i.i whole c.loop-i.invariant.put)

pub returns-clause-seen : goal.returns-clause-seen
returns-clause-seen g c = c.loop-i.invariant.seen
