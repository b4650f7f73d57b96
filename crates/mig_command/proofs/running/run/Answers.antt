use Rattle.mig_command.specs.Answer.{AnswersInput}
use Rattle.mig_command.specs.Words.{plain_layout, texts_of}
use Rattle.mig_command.proofs.CommandLine.{plain_is_check}
use Rattle.mig_command.proofs.Reporting.{of_check, wants_memory, reported}
use Rattle.mig_command.proofs.running.run.Goals as goal
use Rattle.mig_command.proofs.running.run.Goals.{in-Ok, in-Err}

pub returns-clause-check : goal.returns-clause-check
returns-clause-check g c = λ layout ask other.
    let answers : AnswersInput layout (g.R.Read.remaining c.args.input.now)
    (g.R.Read.remaining c.match-asked.input) c.match-asked.answer = elim c.match-asked.branch [
      | in-Ok w ↦ rw (w.input-is, w.answer-is) (of_check _ layout _ (w.in-Ok.ensures.ok layout ask) w.answer_to-answer.ensures)
      | in-Err w ↦ rw (w.input-is, w.answer-is) (wants_memory layout _ _ w.in-Err.answer (w.in-Err.ensures.err layout ask))
    ] in
    let printed = c.end_with.ensures.printed other in
    reported layout _ _ _ _ c.match-asked.answer c.end_with.result answers printed.0 other printed.1

pub returns-clause-plain : goal.returns-clause-plain
returns-clause-plain g c = λ ask other. returns-clause-check g c plain_layout (plain_is_check (texts_of c.args.words.now) ask) other
