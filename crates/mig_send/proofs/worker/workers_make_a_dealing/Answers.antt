use Rattle.mig_send.proofs.Dealings as dealings
use Rattle.mig_send.proofs.worker.workers_make_a_dealing.Goals as goal

pub returns : goal.returns
returns c start = dealings.workers_make_a_dealing
