use Rattle.std.proofs.Common.{◌∙◌}
use Rattle.mig_send.proofs.Claimed.{claimed_batch}
use Rattle.mig_send.proofs.channel_worker.batch_of.Goals as goal

pub returns-clause-batch : goal.returns-clause-batch
returns-clause-batch g c = claimed_batch c.args.work.now c.args.hand.now c.batch.result c.len-count.ensures.claims c.requires.hand
    (c.batch.ensures ∙ c.requires.found.is_held)
