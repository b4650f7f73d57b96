use Rattle.mig_relay.proofs.InOrder.{pushes}
use Rattle.mig_relay.proofs.queue.push.Goals as goal

pub send_as-requires-clause-rule : goal.send_as-requires-clause-rule
send_as-requires-clause-rule g c = (pushes _ _ _ _ c.requires.role c.requires.next, λ _ _ _ _. tt)
