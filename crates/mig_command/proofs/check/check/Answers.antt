use Rattle.mig_command.proofs.Checking.{is_refused}
use Rattle.mig_command.proofs.check.check.Goals as goal

pub returns-in-Err : goal.returns-in-Err
returns-in-Err g c = is_refused c.args.layout c.args.text.now c.in-Err.fault c.in-Err.ensures.err

pub returns-in-Ok-check_texts : goal.returns-in-Ok-check_texts
returns-in-Ok-check_texts g c =
    rw c.in-Ok-check_texts.is at (c.check_texts.ensures c.args.text.now c.in-Ok.ensures.ok c.in-Ok.ensures.lawful c.in-Ok.ensures.several)
