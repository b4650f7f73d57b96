use Rattle.std.proofs.Common.{[], sym, ◌∙◌}
use Rattle.std.proofs.lemmas.List.{append-nil}
use Rattle.mig_send.proofs.worker.VecPackedSink.add.Goals as goal

pub returns-in_err-push-clause-prefix : goal.returns-in_err-push-clause-prefix
returns-in_err-push-clause-prefix g c = record { rest = []; is_text = c.in_err-push.ensures.items ∙ sym (append-nil c.args.self.now.items) }
