use Rattle.std.proofs.lemmas.Result.{IfOk-weaker}
use Rattle.mig_command.proofs.CommandLine.{with_arg}
use Rattle.mig_command.proofs.words.check_command.Goals as goal

pub returns : goal.returns
returns c =
    let step-1 = with_arg _ _ _ _ _ (record { has_app = c.new.ensures.app; has_no_globals = c.new.ensures.local })
    c.channels_option.ensures c.in_ok-arg.ensures in
    let step-2 = with_arg _ _ _ _ _ step-1 c.batch_option.ensures c.in_ok-arg-2.ensures in
    IfOk-weaker c.arg-3.result _ _ (λ r h. with_arg _ _ _ _ r step-2 c.page_option.ensures h) c.arg-3.ensures
