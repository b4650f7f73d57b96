use Rattle.mig_relay.proofs.InOrder.{begins}
use Rattle.mig_relay.proofs.queue.queue_for.Goals as goal

pub bounded_with-requires-clause-rule : goal.bounded_with-requires-clause-rule
bounded_with-requires-clause-rule g c = begins
