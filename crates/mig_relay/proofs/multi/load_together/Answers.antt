use Rattle.std.specs.Prelude.{is_ok}
use Rattle.mig_relay.proofs.RelayAnswers.{were_received, load_of, is_load_of}
use Rattle.mig_relay.proofs.multi.load_together.Goals as goal

pub returns-in-Err-clause-answer : goal.returns-in-Err-clause-answer
returns-in-Err-clause-answer g c = λ uuid texts size is.
    let given = c.args.settings in
    c.in-Err.ensures.answer (load_of given uuid c.args.main.now texts size)
    (is_load_of given c.args.main.now c.args.collector.now given.page_size given.waiting uuid texts size is)

pub load_rounds_by-verdict-requires-clause-goes : goal.load_rounds_by-verdict-requires-clause-goes
load_rounds_by-verdict-requires-clause-goes g c = λ κs lives. (c.begin.ensures.some.0, c.in-Ok.ensures.going c.begin.ensures.some.0 c.begin.ensures.some.1)

pub returns-clause-answer : goal.returns-clause-answer
returns-clause-answer g c = λ uuid texts size is.
    let given = c.args.settings in
    let l = load_of given uuid c.args.main.now texts size in
    let going = c.in-Ok.ensures.going l (is_load_of given c.args.main.now c.args.collector.now given.page_size given.waiting uuid texts size is) in
    c.answered.ensures.answer l c.load_rounds_by-verdict.new.collector (c.load_rounds_by-verdict.ensures.ended l going)
    (c.main_places-at.ensures l c.begin.new.collector going)

pub returns-clause-received : goal.returns-clause-received
returns-clause-received g c =
    let some = c.begin.ensures.some in
    let ended = (c.load_rounds_by-verdict.ensures.ended some.0 (c.in-Ok.ensures.going some.0 some.1)).has_ended in
    rw (c.answered.ensures.rounds, c.answered.ensures.verdict, ← c.in-Ok.ensures.same)
    (were_received c.load_rounds_by-verdict.new.going.target.rounds
    (is_ok c.load_rounds_by-verdict.result) c.begin.new.collector c.load_rounds_by-verdict.new.collector
    c.load_rounds_by-verdict.ensures.continues ended.have_rounds ended.through)
