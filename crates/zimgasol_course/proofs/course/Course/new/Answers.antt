use Rattle.std.specs.Prelude.{⊤}
use Rattle.zimgasol_course.proofs.Taking.{stands_first}
use Rattle.zimgasol_course.proofs.course.Course.new.Goals as goal

pub returns-clause-ok : goal.returns-clause-ok
returns-clause-ok c = stands_first (λ _ _. ⊤) _ c.new.result tt c.new.ensures.pauses
