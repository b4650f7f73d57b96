use Rattle.mig_answer.proofs.Growing.{answers_law, wants_law, rounds_law}
use Rattle.mig_answer.proofs.laws.answers_stay.Goals as goal

pub returns-clause-settled : goal.returns-clause-settled
returns-clause-settled c = answers_law

pub returns-clause-wanting : goal.returns-clause-wanting
returns-clause-wanting c = wants_law

pub returns-clause-rounds : goal.returns-clause-rounds
returns-clause-rounds c = rounds_law
