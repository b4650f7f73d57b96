use Rattle.mig_c_calls.proofs.Held.{same_held}
use Rattle.mig_c_calls.proofs.multi.given_back.Goals as goal

pub returns-in-Err-clause-err : goal.returns-in-Err-clause-err
returns-in-Err-clause-err c =
    let held = c.args.worker in
    same_held c.in-Err.worker held.worker held.table held.drained _ held.same_table c.in-Err.ensures.err
