use Rattle.mig_session.proofs.FedSources.{on_err}
use Rattle.mig_session.proofs.Settling.{takes_size, takes_alone, done_settled}
use Rattle.mig_session.proofs.taking.pump.Goals as goal

pub take_all-requires : goal.take_all-requires
take_all-requires g c = (c.requires.0, c.loop.invariant.takes c.requires.0 c.requires.1 c.requires.2, c.requires.2)

pub returns-in_err-take_all-clause-err : goal.returns-in_err-take_all-clause-err
returns-in_err-take_all-clause-err g c = on_err c.from_residual.result (λ f takes counted.
    c.in_err-take_all.ensures.err f (c.loop.invariant.takes f takes counted) counted)

pub returns-then-none_left-clause-ok : goal.returns-then-none_left-clause-ok
returns-then-none_left-clause-ok g c = λ f takes counted.
    let next = c.in_ok-take_all.ensures.ok f (c.loop.invariant.takes f takes counted) counted in
    record {
      takes = next;
      settled = λ running. done_settled f c.take_all.new.waiting c.take_all.new.load (takes_size f c.take_all.new.waiting c.take_all.new.load next) next
          (c.none_left.ensures c.if-none_left.true running f next counted);
    }

pub returns-clause-err : goal.returns-clause-err
returns-clause-err g c = λ f takes counted.
    let next = c.loop.invariant.takes f takes counted in
    takes_alone f c.loop.waiting c.loop.load (takes_size f c.loop.waiting c.loop.load next) next
