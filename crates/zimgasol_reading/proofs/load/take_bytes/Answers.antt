use Rattle.std.proofs.Common.{take}
use Rattle.mig_sources.specs.Sources.{feed_step}
use Rattle.zimgasol_reading.proofs.Loading.{none_fed, counted}
use Rattle.zimgasol_reading.proofs.load.take_bytes.Goals as goal

pub returns-then-not-has-clause-steps : goal.returns-then-not-has-clause-steps
returns-then-not-has-clause-steps g c = none_fed c.args.source (g.M.GuestTarget.image c.args.memory.now) c.args.session.now

pub returns-then-ended-clause-steps : goal.returns-then-ended-clause-steps
returns-then-ended-clause-steps g c = none_fed c.args.source (g.M.GuestTarget.image c.args.memory.now) c.args.session.now

pub returns-then-has_round-clause-steps : goal.returns-then-has_round-clause-steps
returns-then-has_round-clause-steps g c =
    counted (feed_step c.args.source (take c.in_ok-taken.taken c.args.piece.now)) (g.M.GuestTarget.image c.args.memory.now)
    (g.M.GuestTarget.image c.feed_round.new.memory) (g.M.GuestTarget.image c.next_round.new.memory)
    c.args.session.now c.feed_round.new.self c.next_round.new.self (c.in_ok-taken.ensures.judged c.if-has_round.true) c.next_round.ensures.stands
