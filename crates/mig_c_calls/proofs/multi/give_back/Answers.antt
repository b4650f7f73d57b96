use Rattle.std.proofs.Common.{refl, sym, subst}
use Rattle.std.specs.Prelude.{Some, None}
use Rattle.mig_c_calls.specs.declared.sending.MultiState.{MultiState}
use Rattle.mig_c_calls.specs.declared.sending.MultiState.TheVariants.{Round}
use Rattle.mig_c_calls.specs.Multi.{TakesBackWorker}
use Rattle.mig_c_calls.proofs.Calls.{takes_done, takes_not}
use Rattle.mig_c_calls.proofs.multi.give_back.Goals as goal

pub returns-in-Ok-clause-takes : goal.returns-in-Ok-clause-takes
returns-in-Ok-clause-takes c =
    subst (λ (s : MultiState). TakesBackWorker 0 c.args.worker s (Round c.given_back.new.dealt) None) (sym c.in-Round.is)
    (takes_done c.in-Round.dealt c.given_back.new.dealt c.args.worker c.in-Ok.ensures.ok (c.if-not-can_come_back.ensures.0 refl))

pub returns-in-Err-clause-takes : goal.returns-in-Err-clause-takes
returns-in-Err-clause-takes c =
    subst (λ (s : MultiState). TakesBackWorker 60 c.args.worker s (Round c.given_back.new.dealt) (Some c.in-Err.worker)) (sym c.in-Round.is)
    (takes_not c.in-Round.dealt c.given_back.new.dealt c.args.worker c.in-Err.worker c.in-Err.ensures.same c.in-Err.ensures.err
    (c.if-not-can_come_back.ensures.0 refl))
