use Rattle.mig_command.proofs.Checking.{sent_back}
use Rattle.mig_command.proofs.check.load_sent.Goals as goal

pub returns : goal.returns
returns g c =
    sent_back c.args.page_size c.args.sent.now c.nil.result c.deref.result.now c.deref-2.result.now c.load_multi.result
    c.nil.ensures c.deref.ensures.value c.deref-2.ensures.value
    c.load_multi.ensures.sent
