use Rattle.std.specs.Prelude.{is_ok}
use Rattle.mig_relay.proofs.RelayAnswers.{were_received, relay_answer}
use Rattle.mig_relay.proofs.relayed.load_relayed_with.Goals as goal

pub returns-in-Err-clause-answer : goal.returns-in-Err-clause-answer
returns-in-Err-clause-answer g c = λ page_size waiting uuid texts is.
    let some = c.begin.ensures.some in
    (relay_answer c.args.settings c.args.main.now c.args.collector.now c.in-Err.loaded some.0 some.1 c.in-Err.ensures.answer page_size waiting uuid texts is).0

pub returns-in-Err-clause-streams : goal.returns-in-Err-clause-streams
returns-in-Err-clause-streams g c = λ page_size waiting uuid texts is.
    let some = c.begin.ensures.some in
    (relay_answer c.args.settings c.args.main.now c.args.collector.now c.in-Err.loaded some.0 some.1 c.in-Err.ensures.answer page_size waiting uuid texts is).1

pub load_rounds-verdict-requires : goal.load_rounds-verdict-requires
load_rounds-verdict-requires g c = (c.begin.ensures.some.0, c.in-Ok.ensures.going c.begin.ensures.some.0 c.begin.ensures.some.1)

pub returns-clause-answer : goal.returns-clause-answer
returns-clause-answer g c = λ page_size waiting uuid texts is.
    let some = c.begin.ensures.some in
    (relay_answer c.args.settings c.args.main.now c.args.collector.now c.answered.result some.0 some.1
    (λ l of. c.answered.ensures.answer l c.load_rounds-verdict.new.collector (c.load_rounds-verdict.ensures.ended l (c.in-Ok.ensures.going l of))
    (c.main_places-at.ensures l _ (c.in-Ok.ensures.going l of))) page_size waiting uuid texts is).0

pub returns-clause-streams : goal.returns-clause-streams
returns-clause-streams g c = λ page_size waiting uuid texts is.
    let some = c.begin.ensures.some in
    (relay_answer c.args.settings c.args.main.now c.args.collector.now c.answered.result some.0 some.1
    (λ l of. c.answered.ensures.answer l c.load_rounds-verdict.new.collector (c.load_rounds-verdict.ensures.ended l (c.in-Ok.ensures.going l of))
    (c.main_places-at.ensures l _ (c.in-Ok.ensures.going l of))) page_size waiting uuid texts is).1

pub returns-clause-received : goal.returns-clause-received
returns-clause-received g c =
    let some = c.begin.ensures.some in
    let ended = (c.load_rounds-verdict.ensures.ended some.0 (c.in-Ok.ensures.going some.0 some.1)).has_ended in
    rw (c.answered.ensures.rounds, c.answered.ensures.verdict, ← c.in-Ok.ensures.same)
    (were_received c.load_rounds-verdict.new.going.target.rounds
    (is_ok c.load_rounds-verdict.result) c.begin.new.collector c.load_rounds-verdict.new.collector c.load_rounds-verdict.ensures.continues
    ended.have_rounds ended.through)
