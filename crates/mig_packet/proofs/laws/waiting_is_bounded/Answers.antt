use Rattle.mig_packet.proofs.Bounded.{waiting_is_bounded, waiting_bytes_are_bounded, limit_only_refuses, refused_is_over}
use Rattle.mig_packet.proofs.LetThrough.{through_law}
use Rattle.mig_packet.proofs.laws.waiting_is_bounded.Goals as goal

pub returns-clause-bounded : goal.returns-clause-bounded
returns-clause-bounded c = waiting_is_bounded

pub returns-clause-bytes : goal.returns-clause-bytes
returns-clause-bytes c = waiting_bytes_are_bounded

pub returns-clause-only : goal.returns-clause-only
returns-clause-only c = limit_only_refuses

pub returns-clause-over : goal.returns-clause-over
returns-clause-over c = refused_is_over

pub returns-clause-through : goal.returns-clause-through
returns-clause-through c = through_law
