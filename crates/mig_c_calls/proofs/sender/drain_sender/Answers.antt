use Rattle.mig_c_calls.proofs.SenderSteps.{drains}
use Rattle.mig_c_calls.proofs.sender.drain_sender.Goals as goal

pub returns : goal.returns
returns c = drains c.hand_out.result c.hand_out.new.out _ _ _ c.refill.ensures c.hand_out.ensures
