use Rattle.std.proofs.Common.{refl}
use Rattle.mig_c_calls.proofs.Drains.{drains_main}
use Rattle.mig_c_calls.proofs.multi.drain_main.Goals as goal

pub returns : goal.returns
returns c = drains_main c.hand_out.result c.hand_out.new.out c.args.multi.now c.refill_main.new.multi _ c.refill_main.ensures c.hand_out.ensures refl
