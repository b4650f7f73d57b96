use Rattle.std.proofs.Common.{ℕ, List, subst}
use Rattle.mig_command.specs.Answer.{Answers}
use Rattle.mig_command.proofs.Reporting.{is_input, unread}
use Rattle.mig_command.proofs.running.check_input.Goals as goal

pub returns-in-Ok : goal.returns-in-Ok
returns-in-Ok g c =
    is_input c.args.layout (g.R.Read.remaining c.args.input.now) (g.R.Read.remaining c.read_whole.new.input) c.in-Ok.text.items c.check.result
    c.in-Ok.ensures.ok.0 c.in-Ok.ensures.ok.1 (subst (λ (t : List ℕ). Answers c.args.layout t c.check.result) c.deref.ensures.value c.check.ensures)

pub returns-in-Err : goal.returns-in-Err
returns-in-Err g c = unread c.args.layout (g.R.Read.remaining c.args.input.now) (g.R.Read.remaining c.read_whole.new.input) c.in-Err.answer c.in-Err.ensures.err
