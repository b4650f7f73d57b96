use Rattle.std.proofs.Common.{ℕ, ◌≡◌, ◌+◌, ◌-◌, ◌<◌, ◌∙◌, List, length, refl, arith}
use Rattle.mig_in_place.proofs.Midway.{any_err}
use Rattle.mig_in_place.proofs.Turns.{left, length-left, TakenSoFar, taken_none, taken_more, turn_took, turn_judged, taken_step, taken_lack, taken_ran}
use Rattle.mig_in_place.proofs.session.InPlaceSession.take.Goals as goal

pub rounds-init : goal.rounds-init
rounds-init g c = (taken_none c.args.source c.args.piece.now (g.M.GuestTarget.image c.args.memory.now) c.args.self.now, refl)

pub rounds-preserved-then-judged : goal.rounds-preserved-then-judged
rounds-preserved-then-judged g c = (
  taken_more c.args.source c.args.piece.now c.rounds.taken c.in_ok-count.count (g.M.GuestTarget.image c.args.memory.now) (g.M.GuestTarget.image c.rounds.memory)
      (g.M.GuestTarget.image c.next_round.new.memory)
      c.args.self.now c.rounds.self c.next_round.new.self c.rounds.invariant.0
      (turn_judged c.args.source (left c.args.piece.now c.rounds.taken) c.in_ok-count.count c.in_ok-count.judged (g.M.GuestTarget.image c.rounds.memory)
      (g.M.GuestTarget.image c.feed_round.new.memory) (g.M.GuestTarget.image c.next_round.new.memory)
      c.rounds.self c.feed_round.new.self c.next_round.new.self c.in_ok-count.ensures.taken (c.in_ok-count.ensures.judged c.if-judged.true)
      c.next_round.ensures.stands c.in_ok-count.ensures.counts c.next_round.ensures.counts c.feed_round.ensures.table c.next_round.ensures.table
      c.feed_round.ensures.rounds c.next_round.ensures.rounds c.in_ok-count.ensures.settled c.if-judged.true c.in_ok-count.ensures.main),
  c.next_round.ensures.kept ∙ c.feed_round.ensures.kept ∙ c.rounds.invariant.1,
)

pub rounds-preserved : goal.rounds-preserved
rounds-preserved g c = (
  taken_more c.args.source c.args.piece.now c.rounds.taken c.in_ok-count.count (g.M.GuestTarget.image c.args.memory.now) (g.M.GuestTarget.image c.rounds.memory)
      (g.M.GuestTarget.image c.feed_round.new.memory)
      c.args.self.now c.rounds.self c.feed_round.new.self c.rounds.invariant.0
      (turn_took c.args.source (left c.args.piece.now c.rounds.taken) c.in_ok-count.count c.in_ok-count.judged (g.M.GuestTarget.image c.rounds.memory)
      (g.M.GuestTarget.image c.feed_round.new.memory) c.rounds.self c.feed_round.new.self c.in_ok-count.ensures.taken
      (c.in_ok-count.ensures.ok c.if-judged.false) c.in_ok-count.ensures.counts c.feed_round.ensures.table c.feed_round.ensures.rounds
      c.in_ok-count.ensures.settled c.in_ok-count.ensures.main),
  c.feed_round.ensures.kept ∙ c.rounds.invariant.1,
)

pub returns-then-count-eq0-clause-counts : goal.returns-then-count-eq0-clause-counts
returns-then-count-eq0-clause-counts g c =
    let next : TakenSoFar c.args.source c.args.piece.now (c.rounds.taken + c.in_ok-count.count) (g.M.GuestTarget.image c.args.memory.now) c.args.self.now
    (g.M.GuestTarget.image c.feed_round.new.memory) c.feed_round.new.self =
    taken_more c.args.source c.args.piece.now c.rounds.taken c.in_ok-count.count (g.M.GuestTarget.image c.args.memory.now)
    (g.M.GuestTarget.image c.rounds.memory) (g.M.GuestTarget.image c.feed_round.new.memory)
    c.args.self.now c.rounds.self c.feed_round.new.self c.rounds.invariant.0
    (turn_took c.args.source (left c.args.piece.now c.rounds.taken) c.in_ok-count.count c.in_ok-count.judged (g.M.GuestTarget.image c.rounds.memory)
    (g.M.GuestTarget.image c.feed_round.new.memory) c.rounds.self c.feed_round.new.self c.in_ok-count.ensures.taken
    (c.in_ok-count.ensures.ok c.if-judged.false) c.in_ok-count.ensures.counts c.feed_round.ensures.table c.feed_round.ensures.rounds
    c.in_ok-count.ensures.settled c.in_ok-count.ensures.main) in
    next.has_counts

pub returns-then-count-eq0-clause-main : goal.returns-then-count-eq0-clause-main
returns-then-count-eq0-clause-main g c =
    let next : TakenSoFar c.args.source c.args.piece.now (c.rounds.taken + c.in_ok-count.count) (g.M.GuestTarget.image c.args.memory.now) c.args.self.now
    (g.M.GuestTarget.image c.feed_round.new.memory) c.feed_round.new.self =
    taken_more c.args.source c.args.piece.now c.rounds.taken c.in_ok-count.count (g.M.GuestTarget.image c.args.memory.now)
    (g.M.GuestTarget.image c.rounds.memory) (g.M.GuestTarget.image c.feed_round.new.memory)
    c.args.self.now c.rounds.self c.feed_round.new.self c.rounds.invariant.0
    (turn_took c.args.source (left c.args.piece.now c.rounds.taken) c.in_ok-count.count c.in_ok-count.judged (g.M.GuestTarget.image c.rounds.memory)
    (g.M.GuestTarget.image c.feed_round.new.memory) c.rounds.self c.feed_round.new.self c.in_ok-count.ensures.taken
    (c.in_ok-count.ensures.ok c.if-judged.false) c.in_ok-count.ensures.counts c.feed_round.ensures.table c.feed_round.ensures.rounds
    c.in_ok-count.ensures.settled c.in_ok-count.ensures.main) in
    next.takes_whole

pub returns-then-count-eq0-clause-settled : goal.returns-then-count-eq0-clause-settled
returns-then-count-eq0-clause-settled g c =
    let next : TakenSoFar c.args.source c.args.piece.now (c.rounds.taken + c.in_ok-count.count) (g.M.GuestTarget.image c.args.memory.now) c.args.self.now
    (g.M.GuestTarget.image c.feed_round.new.memory) c.feed_round.new.self =
    taken_more c.args.source c.args.piece.now c.rounds.taken c.in_ok-count.count (g.M.GuestTarget.image c.args.memory.now)
    (g.M.GuestTarget.image c.rounds.memory) (g.M.GuestTarget.image c.feed_round.new.memory)
    c.args.self.now c.rounds.self c.feed_round.new.self c.rounds.invariant.0
    (turn_took c.args.source (left c.args.piece.now c.rounds.taken) c.in_ok-count.count c.in_ok-count.judged (g.M.GuestTarget.image c.rounds.memory)
    (g.M.GuestTarget.image c.feed_round.new.memory) c.rounds.self c.feed_round.new.self c.in_ok-count.ensures.taken
    (c.in_ok-count.ensures.ok c.if-judged.false) c.in_ok-count.ensures.counts c.feed_round.ensures.table c.feed_round.ensures.rounds
    c.in_ok-count.ensures.settled c.in_ok-count.ensures.main) in
    next.settled

pub returns-then-count-eq0-clause-steps : goal.returns-then-count-eq0-clause-steps
returns-then-count-eq0-clause-steps g c =
    let next : TakenSoFar c.args.source c.args.piece.now (c.rounds.taken + c.in_ok-count.count) (g.M.GuestTarget.image c.args.memory.now) c.args.self.now
    (g.M.GuestTarget.image c.feed_round.new.memory) c.feed_round.new.self =
    taken_more c.args.source c.args.piece.now c.rounds.taken c.in_ok-count.count (g.M.GuestTarget.image c.args.memory.now)
    (g.M.GuestTarget.image c.rounds.memory) (g.M.GuestTarget.image c.feed_round.new.memory)
    c.args.self.now c.rounds.self c.feed_round.new.self c.rounds.invariant.0
    (turn_took c.args.source (left c.args.piece.now c.rounds.taken) c.in_ok-count.count c.in_ok-count.judged (g.M.GuestTarget.image c.rounds.memory)
    (g.M.GuestTarget.image c.feed_round.new.memory) c.rounds.self c.feed_round.new.self c.in_ok-count.ensures.taken
    (c.in_ok-count.ensures.ok c.if-judged.false) c.in_ok-count.ensures.counts c.feed_round.ensures.table c.feed_round.ensures.rounds
    c.in_ok-count.ensures.settled c.in_ok-count.ensures.main) in
    taken_step c.args.source c.args.piece.now (c.rounds.taken + c.in_ok-count.count) (g.M.GuestTarget.image c.args.memory.now)
    (g.M.GuestTarget.image c.feed_round.new.memory) c.args.self.now c.feed_round.new.self next

pub returns-then-count-eq0-clause-waits : goal.returns-then-count-eq0-clause-waits
returns-then-count-eq0-clause-waits g c = λ below.
    let none : c.in_ok-count.count ≡ 0 = c.if-count-eq0.true in
    let some : c.in_ok-count.count < length (left c.args.piece.now c.rounds.taken) = omega (arith, none, below, length-left c.args.piece.now c.rounds.taken) in
    c.in_ok-count.ensures.waits c.if-judged.false some

pub returns-clause-steps : goal.returns-clause-steps
returns-clause-steps g c =
    taken_step c.args.source c.args.piece.now c.rounds.taken (g.M.GuestTarget.image c.args.memory.now)
    (g.M.GuestTarget.image c.rounds.memory) c.args.self.now c.rounds.self c.rounds.invariant.0

pub returns-clause-main : goal.returns-clause-main
returns-clause-main g c = c.rounds.invariant.0.takes_whole

pub returns-clause-settled : goal.returns-clause-settled
returns-clause-settled g c = c.rounds.invariant.0.settled

pub returns-in_err-count-clause-failed : goal.returns-in_err-count-clause-failed
returns-in_err-count-clause-failed g c = any_err c.from_residual.result
    (taken_lack c.args.source c.args.piece.now c.rounds.taken (g.M.GuestTarget.image c.args.memory.now) (g.M.GuestTarget.image c.rounds.memory)
    (g.M.GuestTarget.image c.feed_round.new.memory) c.args.self.now c.rounds.self
    c.feed_round.new.self c.in_err-count.ensures.failed c.rounds.invariant.0)

pub returns-in_err-count-clause-runs : goal.returns-in_err-count-clause-runs
returns-in_err-count-clause-runs g c = any_err c.from_residual.result
    (taken_ran c.args.source c.args.piece.now c.rounds.taken (g.M.GuestTarget.image c.args.memory.now)
    (g.M.GuestTarget.image c.rounds.memory) c.args.self.now c.rounds.self c.rounds.invariant.0 c.in_err-count.ensures.runs)
