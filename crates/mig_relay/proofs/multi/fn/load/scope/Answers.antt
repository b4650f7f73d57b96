use Rattle.std.proofs.Common.{sym, subst}
use Rattle.mig_load_types.specs.declared.loaded.Loaded.{Loaded}
use Rattle.mig_relay.specs.Multi.{AnswersRelay}
use Rattle.mig_relay.proofs.Relaying.{refused_answers}
use Rattle.mig_relay.proofs.multi.fn.load.scope.Goals as goal
use Rattle.mig_relay.proofs.multi.fn.load.scope.Goals.{in-Ok-start_workers, in-Err}

pub returns-in_default : goal.returns-in_default
returns-in_default g c = refused_answers c.captures.settings c.captures.main.now c.captures.collector c.without_memory.result c.without_memory.ensures

pub returns : goal.returns
returns g c =
    let Answers = λ (l : Loaded g.row.A.Denot). AnswersRelay c.captures.settings c.captures.main.now c.captures.collector l in
    elim c.match-start_workers.branch [
      | in-Ok-start_workers w ↦ subst Answers (sym w.loaded-is) w.load_together-loaded.ensures.answer
      | in-Err w ↦ subst Answers (sym w.loaded-is)
          (refused_answers c.captures.settings c.captures.main.now c.captures.collector w.without_memory-loaded.result w.without_memory-loaded.ensures)
    ]
