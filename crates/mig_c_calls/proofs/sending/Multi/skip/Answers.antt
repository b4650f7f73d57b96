use Rattle.std.proofs.Common.{refl}
use Rattle.mig_c_calls.proofs.Drains.{skips_main}
use Rattle.mig_c_calls.proofs.sending.Multi.skip.Goals as goal

pub returns : goal.returns
returns c = skips_main c.args.len c.skip.result c.args.self.now _ c.skip.ensures.count c.skip.ensures.rest refl
