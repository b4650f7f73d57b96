use Rattle.std.proofs.Common.{sym, subst}
use Rattle.mig_c_calls.specs.declared.sender.Sending.{Sending}
use Rattle.mig_c_calls.specs.declared.sender.Sending.TheVariants.{Idle}
use Rattle.mig_c_calls.specs.Sending.{EndsRound}
use Rattle.mig_c_calls.proofs.SenderSteps.{ends_round}
use Rattle.mig_c_calls.proofs.sender.ended.Goals as goal

pub returns-in-Ok : goal.returns-in-Ok
returns-in-Ok c =
    subst (λ (s : Sending). EndsRound 0 s (Idle c.in-Ok.sender)) (sym c.in-Round.is)
    (ends_round c.in-Round.round c.in-Ok.sender c.in-Ok.ensures.table c.in-Ok.ensures.ok)
