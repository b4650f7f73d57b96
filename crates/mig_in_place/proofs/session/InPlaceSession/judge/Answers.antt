use Rattle.std.proofs.Common.{sym, subst, arith}
use Rattle.mig_answer.specs.declared.verdict.Verdict.{Verdict}
use Rattle.mig_in_place.specs.Session.{InPlaceLoad, Loads, Stands, IsDue, PassesAt}
use Rattle.mig_in_place.proofs.Keeping.{same_count}
use Rattle.mig_in_place.proofs.Lawful.{judged_loads, lawful_passes, refused_stands}
use Rattle.mig_in_place.proofs.session.InPlaceSession.judge.Goals as goal

pub returns-in-Ok-clause-lawful : goal.returns-in-Ok-clause-lawful
returns-in-Ok-clause-lawful g c = λ _ f memory loads due.
    let i = c.self.inside in
    let s : InPlaceLoad =
    record {
      table = i.table;
      sources = record { main = i.main; channels = i.channels.items };
      round = i.round;
      rounds = i.rounds;
      base = i.base;
      named = i.named;
      verdict = i.verdict;
    } in
    let mine : Loads f memory s = subst (λ (x : InPlaceLoad). Loads f memory x) (sym c.self.view_is) loads in
    let here : IsDue f i.rounds = subst (λ (x : InPlaceLoad). IsDue f x.rounds) (sym c.self.view_is) due in
    let passes : PassesAt f i.rounds = lawful_passes f memory s mine here c.in-Ok.ensures.lawful in (
      judged_loads f memory s c.judge.new.self c.judge.ensures.same c.judge.ensures.misplaced mine,
      subst (λ (x : InPlaceLoad). PassesAt f x.rounds) c.self.view_is passes,
    )

pub returns-in-Ok-clause-room : goal.returns-in-Ok-clause-room
returns-in-Ok-clause-room g c = λ _.
    let count = same_count c.self.inside.table c.self.inside.round c.judge.new.self c.judge.ensures.same c.self.invariant.round in
    (omega (arith, count), omega arith)

pub returns-in-Err-clause-refused : goal.returns-in-Err-clause-refused
returns-in-Err-clause-refused g c = λ _ f memory loads due.
    let i = c.self.inside in
    let s : InPlaceLoad =
    record {
      table = i.table;
      sources = record { main = i.main; channels = i.channels.items };
      round = i.round;
      rounds = i.rounds;
      base = i.base;
      named = i.named;
      verdict = i.verdict;
    } in
    let mine : Loads f memory s = subst (λ (x : InPlaceLoad). Loads f memory x) (sym c.self.view_is) loads in
    let here : IsDue f i.rounds = subst (λ (x : InPlaceLoad). IsDue f x.rounds) (sym c.self.view_is) due in
    let now : InPlaceLoad = record s { round = c.judge.new.self } in
    subst (λ (v : Verdict). Stands f memory (record now { verdict = v })) (sym c.failed-self-inside.ensures)
    (refused_stands f memory s mine here c.in-Err.fault c.judge.new.self c.in-Err.ensures.refused
    (judged_loads f memory s c.judge.new.self c.judge.ensures.same c.judge.ensures.misplaced mine))
