use Rattle.std.proofs.Common.{refl, arith}
use Rattle.mig_c_calls.proofs.Sends.{err_not_ok}
use Rattle.mig_c_calls.proofs.worker.pack_on.Goals as goal

pub returns-in-Err : goal.returns-in-Err
returns-in-Err c = record {
  is_named = refl;
  made = c.step.result;
  stepped = c.step.ensures.step;
  is_made = (λ ok. absurd (err_not_ok c.step.result _ c.in-Err.is ok), grind arith);
}
