use Rattle.mig_stream.proofs.Room.{bounded_law, full_law}
use Rattle.mig_stream.proofs.Unlimited.{only_law}
use Rattle.mig_stream.proofs.LetThrough.{through_law}
use Rattle.mig_stream.proofs.laws.waiting_is_bounded.Goals as goal

pub returns-clause-bounded : goal.returns-clause-bounded
returns-clause-bounded c = bounded_law

pub returns-clause-full : goal.returns-clause-full
returns-clause-full c = full_law

pub returns-clause-only : goal.returns-clause-only
returns-clause-only c = only_law

pub returns-clause-through : goal.returns-clause-through
returns-clause-through c = through_law
