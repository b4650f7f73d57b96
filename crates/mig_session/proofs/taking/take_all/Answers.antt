use Rattle.std.proofs.Common.{arith}
use Rattle.mig_sources.specs.declared.source.Source.TheVariants as source
use Rattle.mig_session.proofs.FedSources.{on_err}
use Rattle.mig_session.proofs.Settling.{counted_at, channel_there}
use Rattle.mig_session.proofs.taking.take_all.Goals as goal

pub returns-in_err-take_waiting-clause-err : goal.returns-in_err-take_waiting-clause-err
returns-in_err-take_waiting-clause-err g c = on_err c.from_residual.result (λ f takes counted.
    c.in_err-take_waiting.ensures.err f takes (counted_at f.texts source.Main c.args.counts.now c.of.result counted tt c.of.ensures))

pub loop-j-preserved : goal.loop-j-preserved
loop-j-preserved g c = record {
  takes = λ f takes counted.
      c.in_ok-take_waiting-2.ensures.ok f (c.loop-j.invariant.takes f takes counted)
      (counted_at f.texts (source.Channel c.loop-j.j) c.args.counts.now c.of-in-loop-j.result counted
      (channel_there f.texts c.args.counts.now c.loop-j.j counted (omega (arith, c.loop-j-test.true, c.channels-j-end.ensures))) c.of-in-loop-j.ensures);
  rounds = omega (arith, c.loop-j.invariant.rounds, c.take_waiting-in-loop-j.ensures.rounds);
}

pub returns-in_err-take_waiting-2-clause-err : goal.returns-in_err-take_waiting-2-clause-err
returns-in_err-take_waiting-2-clause-err g c = on_err c.from_residual-in_err-take_waiting-2.result (λ f takes counted.
    c.in_err-take_waiting-2.ensures.err f (c.loop-j.invariant.takes f takes counted)
    (counted_at f.texts (source.Channel c.loop-j.j) c.args.counts.now c.of-in-loop-j.result counted
    (channel_there f.texts c.args.counts.now c.loop-j.j counted (omega (arith, c.loop-j-test.true, c.channels-j-end.ensures))) c.of-in-loop-j.ensures))
