use Rattle.std.proofs.Common.{sym, subst, arith}
use Rattle.std.specs.Prelude.{Some, None}
use Rattle.mig_c_calls.specs.declared.sending.MultiState.{MultiState}
use Rattle.mig_c_calls.specs.declared.sending.MultiState.TheVariants.{Round}
use Rattle.mig_c_calls.specs.Multi.{HandsOutWorker}
use Rattle.mig_c_calls.proofs.Calls.{hands_done, hands_not}
use Rattle.mig_c_calls.proofs.multi.hand_out_worker.Goals as goal

pub returns-in-Ok-clause-hands : goal.returns-in-Ok-clause-hands
returns-in-Ok-clause-hands c =
    subst (λ (s : MultiState). HandsOutWorker 0 s (Round c.next_worker.new.dealt) (Some c.in-Ok.worker)) (sym c.in-Round.is)
    (hands_done c.in-Round.dealt c.next_worker.new.dealt c.in-Ok.worker c.in-Ok.ensures.ok (omega (arith, c.workers_left.ensures, c.if-workers_left-eq0.false)))

pub returns-in-Err-clause-hands : goal.returns-in-Err-clause-hands
returns-in-Err-clause-hands c =
    subst (λ (s : MultiState). HandsOutWorker 60 s (Round c.next_worker.new.dealt) None) (sym c.in-Round.is)
    (hands_not c.in-Round.dealt c.next_worker.new.dealt c.in-Err.ensures.err (omega (arith, c.workers_left.ensures, c.if-workers_left-eq0.false)))
