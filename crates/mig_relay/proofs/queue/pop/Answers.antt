use Rattle.mig_relay.proofs.InOrder.{pops}
use Rattle.mig_relay.proofs.queue.pop.Goals as goal

pub recv_as-requires-clause-rule : goal.recv_as-requires-clause-rule
recv_as-requires-clause-rule g c = (pops _ _ c.requires.role, λ _ _ _ _. tt)
