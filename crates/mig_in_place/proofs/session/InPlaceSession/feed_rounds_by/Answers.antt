use Rattle.std.proofs.Common.{ℕ, ◌≡◌, ◌+◌, ◌-◌, ◌<◌, ◌∙◌, List, length, sym, ap, subst, arith}
use Rattle.mig_mem.specs.Image.{Image}
use Rattle.mig_staged.specs.Staged.{staged}
use Rattle.mig_in_place.specs.Session.{Loading, IsJudged}
use Rattle.mig_in_place.proofs.Midway.{any_err}
use Rattle.mig_in_place.proofs.Turns.{left, length-left, turn_took, turn_judged, turn_ran, taken_step, taken_lack, taken_ran}
use Rattle.mig_in_place.proofs.WholeRounds.{RoundsSoFar, rounds_none, rounds_more, rounds_took, rounds_judged, taken_source, taken_open, rounds_keep}
use Rattle.mig_in_place.proofs.WholeRounds.{rounds_settled, rounds_kept}
use Rattle.mig_in_place.proofs.session.InPlaceSession.feed_rounds_by.Goals as goal

pub rounds-init : goal.rounds-init
rounds-init g c = rounds_none c.args.source c.args.piece.now c.args.memory.now c.args.self.now

pub rounds-preserved-then-judged : goal.rounds-preserved-then-judged
rounds-preserved-then-judged g c =
    let same : staged c.keep.new.memory ≡ staged c.feed_round.new.memory = c.keep.ensures.image ∙ c.keep.ensures.kept in
    rounds_more c.args.source c.args.piece.now c.rounds.taken c.in_ok-count.count c.args.memory.now c.rounds.memory c.next_round.new.memory c.args.self.now
    c.rounds.self c.next_round.new.self c.rounds.invariant
    (rounds_judged c.args.source
    (left c.args.piece.now c.rounds.taken) c.in_ok-count.count c.rounds.memory c.feed_round.new.memory c.keep.new.memory c.next_round.new.memory
    c.rounds.self c.feed_round.new.self c.next_round.new.self (c.in_ok-count.ensures.judged c.if-judged.true) c.keep.ensures.kept c.next_round.ensures.kept
    c.feed_round.ensures.table.1 c.next_round.ensures.rounds
    (turn_ran c.rounds.self.verdict c.in_ok-count.judged (λ other. (c.in_ok-count.ensures.settled other).1) c.if-judged.true)
    (turn_judged c.args.source (left c.args.piece.now c.rounds.taken) c.in_ok-count.count c.in_ok-count.judged (staged c.rounds.memory)
    (staged c.feed_round.new.memory) (staged c.next_round.new.memory)
    c.rounds.self c.feed_round.new.self c.next_round.new.self c.in_ok-count.ensures.taken (c.in_ok-count.ensures.judged c.if-judged.true)
    (λ f judged. c.next_round.ensures.stands f (subst (λ (m : Image). IsJudged f m c.feed_round.new.self) (sym same) judged))
    c.in_ok-count.ensures.counts c.next_round.ensures.counts c.feed_round.ensures.table
    (c.next_round.ensures.table.0, c.next_round.ensures.table.1 ∙ ap (λ (m : Image). m.table) same)
    c.feed_round.ensures.rounds c.next_round.ensures.rounds c.in_ok-count.ensures.settled c.if-judged.true c.in_ok-count.ensures.main))

pub rounds-preserved : goal.rounds-preserved
rounds-preserved g c =
    rounds_more c.args.source c.args.piece.now c.rounds.taken c.in_ok-count.count c.args.memory.now c.rounds.memory c.feed_round.new.memory c.args.self.now
    c.rounds.self c.feed_round.new.self c.rounds.invariant
    (rounds_took c.args.source
    (left c.args.piece.now c.rounds.taken) c.in_ok-count.count c.rounds.memory c.feed_round.new.memory c.rounds.self c.feed_round.new.self
    (taken_source c.args.source c.args.piece.now c.rounds.taken (staged c.args.memory.now)
    (staged c.rounds.memory) c.args.self.now c.rounds.self c.rounds.invariant.0 c.requires.source)
    (taken_open c.args.source c.args.piece.now c.rounds.taken (staged c.args.memory.now)
    (staged c.rounds.memory) c.args.self.now c.rounds.self c.rounds.invariant.0 c.requires.source c.requires.open)
    c.feed_round.ensures.kept c.feed_round.ensures.rounds
    (turn_took c.args.source (left c.args.piece.now c.rounds.taken) c.in_ok-count.count c.in_ok-count.judged (staged c.rounds.memory)
    (staged c.feed_round.new.memory) c.rounds.self c.feed_round.new.self c.in_ok-count.ensures.taken
    (c.in_ok-count.ensures.ok c.if-judged.false) c.in_ok-count.ensures.counts c.feed_round.ensures.table c.feed_round.ensures.rounds
    c.in_ok-count.ensures.settled c.in_ok-count.ensures.main))

pub returns-then-count-eq0-clause-counts : goal.returns-then-count-eq0-clause-counts
returns-then-count-eq0-clause-counts g c =
    let next : RoundsSoFar c.args.source c.args.piece.now
    (c.rounds.taken + c.in_ok-count.count) c.args.memory.now c.args.self.now c.feed_round.new.memory c.feed_round.new.self =
    rounds_more c.args.source c.args.piece.now c.rounds.taken c.in_ok-count.count c.args.memory.now c.rounds.memory c.feed_round.new.memory c.args.self.now
    c.rounds.self c.feed_round.new.self c.rounds.invariant
    (rounds_took c.args.source
    (left c.args.piece.now c.rounds.taken) c.in_ok-count.count c.rounds.memory c.feed_round.new.memory c.rounds.self c.feed_round.new.self
    (taken_source c.args.source c.args.piece.now c.rounds.taken (staged c.args.memory.now)
    (staged c.rounds.memory) c.args.self.now c.rounds.self c.rounds.invariant.0 c.requires.source)
    (taken_open c.args.source c.args.piece.now c.rounds.taken (staged c.args.memory.now)
    (staged c.rounds.memory) c.args.self.now c.rounds.self c.rounds.invariant.0 c.requires.source c.requires.open)
    c.feed_round.ensures.kept c.feed_round.ensures.rounds
    (turn_took c.args.source (left c.args.piece.now c.rounds.taken) c.in_ok-count.count c.in_ok-count.judged (staged c.rounds.memory)
    (staged c.feed_round.new.memory) c.rounds.self c.feed_round.new.self c.in_ok-count.ensures.taken
    (c.in_ok-count.ensures.ok c.if-judged.false) c.in_ok-count.ensures.counts c.feed_round.ensures.table c.feed_round.ensures.rounds
    c.in_ok-count.ensures.settled c.in_ok-count.ensures.main)) in
    next.0.has_counts

pub returns-then-count-eq0-clause-main : goal.returns-then-count-eq0-clause-main
returns-then-count-eq0-clause-main g c =
    let next : RoundsSoFar c.args.source c.args.piece.now
    (c.rounds.taken + c.in_ok-count.count) c.args.memory.now c.args.self.now c.feed_round.new.memory c.feed_round.new.self =
    rounds_more c.args.source c.args.piece.now c.rounds.taken c.in_ok-count.count c.args.memory.now c.rounds.memory c.feed_round.new.memory c.args.self.now
    c.rounds.self c.feed_round.new.self c.rounds.invariant
    (rounds_took c.args.source
    (left c.args.piece.now c.rounds.taken) c.in_ok-count.count c.rounds.memory c.feed_round.new.memory c.rounds.self c.feed_round.new.self
    (taken_source c.args.source c.args.piece.now c.rounds.taken (staged c.args.memory.now)
    (staged c.rounds.memory) c.args.self.now c.rounds.self c.rounds.invariant.0 c.requires.source)
    (taken_open c.args.source c.args.piece.now c.rounds.taken (staged c.args.memory.now)
    (staged c.rounds.memory) c.args.self.now c.rounds.self c.rounds.invariant.0 c.requires.source c.requires.open)
    c.feed_round.ensures.kept c.feed_round.ensures.rounds
    (turn_took c.args.source (left c.args.piece.now c.rounds.taken) c.in_ok-count.count c.in_ok-count.judged (staged c.rounds.memory)
    (staged c.feed_round.new.memory) c.rounds.self c.feed_round.new.self c.in_ok-count.ensures.taken
    (c.in_ok-count.ensures.ok c.if-judged.false) c.in_ok-count.ensures.counts c.feed_round.ensures.table c.feed_round.ensures.rounds
    c.in_ok-count.ensures.settled c.in_ok-count.ensures.main)) in
    next.0.takes_whole

pub returns-then-count-eq0-clause-settled : goal.returns-then-count-eq0-clause-settled
returns-then-count-eq0-clause-settled g c =
    let next : RoundsSoFar c.args.source c.args.piece.now
    (c.rounds.taken + c.in_ok-count.count) c.args.memory.now c.args.self.now c.feed_round.new.memory c.feed_round.new.self =
    rounds_more c.args.source c.args.piece.now c.rounds.taken c.in_ok-count.count c.args.memory.now c.rounds.memory c.feed_round.new.memory c.args.self.now
    c.rounds.self c.feed_round.new.self c.rounds.invariant
    (rounds_took c.args.source
    (left c.args.piece.now c.rounds.taken) c.in_ok-count.count c.rounds.memory c.feed_round.new.memory c.rounds.self c.feed_round.new.self
    (taken_source c.args.source c.args.piece.now c.rounds.taken (staged c.args.memory.now)
    (staged c.rounds.memory) c.args.self.now c.rounds.self c.rounds.invariant.0 c.requires.source)
    (taken_open c.args.source c.args.piece.now c.rounds.taken (staged c.args.memory.now)
    (staged c.rounds.memory) c.args.self.now c.rounds.self c.rounds.invariant.0 c.requires.source c.requires.open)
    c.feed_round.ensures.kept c.feed_round.ensures.rounds
    (turn_took c.args.source (left c.args.piece.now c.rounds.taken) c.in_ok-count.count c.in_ok-count.judged (staged c.rounds.memory)
    (staged c.feed_round.new.memory) c.rounds.self c.feed_round.new.self c.in_ok-count.ensures.taken
    (c.in_ok-count.ensures.ok c.if-judged.false) c.in_ok-count.ensures.counts c.feed_round.ensures.table c.feed_round.ensures.rounds
    c.in_ok-count.ensures.settled c.in_ok-count.ensures.main)) in
    rounds_settled c.args.source c.args.piece.now
    (c.rounds.taken + c.in_ok-count.count) c.args.memory.now c.feed_round.new.memory c.args.self.now c.feed_round.new.self next

pub returns-then-count-eq0-clause-kept : goal.returns-then-count-eq0-clause-kept
returns-then-count-eq0-clause-kept g c =
    let next : RoundsSoFar c.args.source c.args.piece.now
    (c.rounds.taken + c.in_ok-count.count) c.args.memory.now c.args.self.now c.feed_round.new.memory c.feed_round.new.self =
    rounds_more c.args.source c.args.piece.now c.rounds.taken c.in_ok-count.count c.args.memory.now c.rounds.memory c.feed_round.new.memory c.args.self.now
    c.rounds.self c.feed_round.new.self c.rounds.invariant
    (rounds_took c.args.source
    (left c.args.piece.now c.rounds.taken) c.in_ok-count.count c.rounds.memory c.feed_round.new.memory c.rounds.self c.feed_round.new.self
    (taken_source c.args.source c.args.piece.now c.rounds.taken (staged c.args.memory.now)
    (staged c.rounds.memory) c.args.self.now c.rounds.self c.rounds.invariant.0 c.requires.source)
    (taken_open c.args.source c.args.piece.now c.rounds.taken (staged c.args.memory.now)
    (staged c.rounds.memory) c.args.self.now c.rounds.self c.rounds.invariant.0 c.requires.source c.requires.open)
    c.feed_round.ensures.kept c.feed_round.ensures.rounds
    (turn_took c.args.source (left c.args.piece.now c.rounds.taken) c.in_ok-count.count c.in_ok-count.judged (staged c.rounds.memory)
    (staged c.feed_round.new.memory) c.rounds.self c.feed_round.new.self c.in_ok-count.ensures.taken
    (c.in_ok-count.ensures.ok c.if-judged.false) c.in_ok-count.ensures.counts c.feed_round.ensures.table c.feed_round.ensures.rounds
    c.in_ok-count.ensures.settled c.in_ok-count.ensures.main)) in
    rounds_keep c.args.source c.args.piece.now
    (c.rounds.taken + c.in_ok-count.count) c.args.memory.now c.feed_round.new.memory c.args.self.now c.feed_round.new.self next

pub returns-then-count-eq0-clause-ok : goal.returns-then-count-eq0-clause-ok
returns-then-count-eq0-clause-ok g c =
    let next : RoundsSoFar c.args.source c.args.piece.now
    (c.rounds.taken + c.in_ok-count.count) c.args.memory.now c.args.self.now c.feed_round.new.memory c.feed_round.new.self =
    rounds_more c.args.source c.args.piece.now c.rounds.taken c.in_ok-count.count c.args.memory.now c.rounds.memory c.feed_round.new.memory c.args.self.now
    c.rounds.self c.feed_round.new.self c.rounds.invariant
    (rounds_took c.args.source
    (left c.args.piece.now c.rounds.taken) c.in_ok-count.count c.rounds.memory c.feed_round.new.memory c.rounds.self c.feed_round.new.self
    (taken_source c.args.source c.args.piece.now c.rounds.taken (staged c.args.memory.now)
    (staged c.rounds.memory) c.args.self.now c.rounds.self c.rounds.invariant.0 c.requires.source)
    (taken_open c.args.source c.args.piece.now c.rounds.taken (staged c.args.memory.now)
    (staged c.rounds.memory) c.args.self.now c.rounds.self c.rounds.invariant.0 c.requires.source c.requires.open)
    c.feed_round.ensures.kept c.feed_round.ensures.rounds
    (turn_took c.args.source (left c.args.piece.now c.rounds.taken) c.in_ok-count.count c.in_ok-count.judged (staged c.rounds.memory)
    (staged c.feed_round.new.memory) c.rounds.self c.feed_round.new.self c.in_ok-count.ensures.taken
    (c.in_ok-count.ensures.ok c.if-judged.false) c.in_ok-count.ensures.counts c.feed_round.ensures.table c.feed_round.ensures.rounds
    c.in_ok-count.ensures.settled c.in_ok-count.ensures.main)) in
    taken_step c.args.source c.args.piece.now (c.rounds.taken + c.in_ok-count.count) (staged c.args.memory.now)
    (staged c.feed_round.new.memory) c.args.self.now c.feed_round.new.self next.0

pub returns-then-count-eq0-clause-waits : goal.returns-then-count-eq0-clause-waits
returns-then-count-eq0-clause-waits g c = λ below.
    let none : c.in_ok-count.count ≡ 0 = c.if-count-eq0.true in
    let some : c.in_ok-count.count < length (left c.args.piece.now c.rounds.taken) = omega (arith, none, below, length-left c.args.piece.now c.rounds.taken) in
    c.in_ok-count.ensures.waits c.if-judged.false some

pub returns-clause-ok : goal.returns-clause-ok
returns-clause-ok g c = taken_step c.args.source c.args.piece.now c.rounds.taken (staged c.args.memory.now)
    (staged c.rounds.memory) c.args.self.now c.rounds.self c.rounds.invariant.0

pub returns-clause-kept : goal.returns-clause-kept
returns-clause-kept g c = rounds_keep c.args.source c.args.piece.now c.rounds.taken c.args.memory.now c.rounds.memory c.args.self.now c.rounds.self
    c.rounds.invariant

pub returns-clause-main : goal.returns-clause-main
returns-clause-main g c = c.rounds.invariant.0.takes_whole

pub returns-clause-settled : goal.returns-clause-settled
returns-clause-settled g c = rounds_settled c.args.source c.args.piece.now c.rounds.taken c.args.memory.now c.rounds.memory c.args.self.now c.rounds.self
    c.rounds.invariant

pub returns-in_err-count-clause-err : goal.returns-in_err-count-clause-err
returns-in_err-count-clause-err g c = any_err c.from_residual.result
    (rounds_kept c.args.source c.args.piece.now c.rounds.taken c.args.memory.now c.rounds.memory c.feed_round.new.memory c.args.self.now c.rounds.self
    c.feed_round.new.self c.requires.source c.requires.open c.feed_round.ensures.kept c.feed_round.ensures.rounds c.rounds.invariant)

pub returns-in_err-count-clause-failed : goal.returns-in_err-count-clause-failed
returns-in_err-count-clause-failed g c = any_err c.from_residual.result
    (taken_lack c.args.source c.args.piece.now c.rounds.taken (staged c.args.memory.now) (staged c.rounds.memory)
    (staged c.feed_round.new.memory) c.args.self.now c.rounds.self
    c.feed_round.new.self c.in_err-count.ensures.failed c.rounds.invariant.0)

pub returns-in_err-count-clause-runs : goal.returns-in_err-count-clause-runs
returns-in_err-count-clause-runs g c = any_err c.from_residual.result
    (taken_ran c.args.source c.args.piece.now c.rounds.taken (staged c.args.memory.now)
    (staged c.rounds.memory) c.args.self.now c.rounds.self c.rounds.invariant.0 c.in_err-count.ensures.runs)
