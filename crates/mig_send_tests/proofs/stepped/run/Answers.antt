use Rattle.mig_send_tests.proofs.TwoWorkers.{rests, runs_on}
use Rattle.mig_send_tests.proofs.stepped.run.Goals as goal

pub steps-init : goal.steps-init
steps-init g c = rests c.args.memory.now c.args.worker.now

pub steps-preserved : goal.steps-preserved
steps-preserved g c = runs_on c.args.memory.now c.args.worker.now c.steps.worker c.step.new.worker c.steps.invariant c.step.ensures
