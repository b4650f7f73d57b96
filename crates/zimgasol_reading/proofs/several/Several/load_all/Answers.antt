use Rattle.std.specs.Prelude.{⊤}
use Rattle.zimgasol_reading.proofs.Answering.{answered_all, answered_none, asked_both, when_ok, both_ok}
use Rattle.zimgasol_reading.proofs.several.Several.load_all.Goals as goal

pub returns-then-is_some-clause-asked : goal.returns-then-is_some-clause-asked
returns-then-is_some-clause-asked g c = when_ok c.load_to.result.0 _ _
    (λ asked. asked_both c.args.self.now c.begin.new.self c.load_to.new.self c.in-Ok.ensures.asked asked) c.load_to.ensures.asked

pub returns-then-is_some-clause-answered : goal.returns-then-is_some-clause-answered
returns-then-is_some-clause-answered g c = when_ok c.load_to.result.0 _ _
    (λ loaded all begun. answered_all all (g.S.PageSink.holds c.load_to.result.1) c.in-Ok.begun.1 c.load_to.new.self
    (loaded all (c.in-Ok.ensures.still all begun) c.in-Ok.ensures.stands)) c.load_to.ensures.loaded

pub returns-clause-asked : goal.returns-clause-asked
returns-clause-asked g c = when_ok c.load_none.result _ _
    (λ asked. asked_both c.args.self.now c.begin.new.self c.load_none.new.self c.in-Ok.ensures.asked asked) c.load_none.ensures.asked

pub returns-clause-answered : goal.returns-clause-answered
returns-clause-answered g c = both_ok c.load_none.result _ _ _
    (λ loaded other all begun. answered_none all (λ _ _. ⊤) (g.S.PageSink.holds c.begin.new.sink) c.in-Ok.begun.1 c.load_none.new.self
    (loaded all (c.in-Ok.ensures.still all begun) c.in-Ok.ensures.stands) other)
    c.load_none.ensures.loaded c.load_none.ensures.open
