use Rattle.zimgasol_reading.proofs.Surveying.{on_ok, if_ok}
use Rattle.zimgasol_reading.proofs.Answering.{answered_on, asked_main, when_ok}
use Rattle.zimgasol_reading.proofs.several.Several.read.Goals as goal

pub returns-in-Ok-clause-asked : goal.returns-in-Ok-clause-asked
returns-in-Ok-clause-asked g c = on_ok c.pass_state.result
    (asked_main c.args.self.now c.load_all-read.new.self c.pass_state.new.self (if_ok _ _ _ c.in-Ok.is c.load_all-read.ensures.asked)
    c.pass_state.ensures.others)

pub returns-in-Ok-clause-answered : goal.returns-in-Ok-clause-answered
returns-in-Ok-clause-answered g c = when_ok c.pass_state.result _ _
    (λ keeps all begun. answered_on all (g.S.PageSink.holds c.load_all-read.result.1) (g.S.PageSink.holds c.pass_state.new.sink) c.load_all-read.new.self
    c.pass_state.new.self
    (if_ok _ _ _ c.in-Ok.is c.load_all-read.ensures.answered all begun) c.pass_state.ensures.others keeps) c.pass_state.ensures.kept
