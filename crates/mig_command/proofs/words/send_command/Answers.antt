use Rattle.std.proofs.lemmas.Result.{IfOk-weaker}
use Rattle.mig_command.proofs.CommandLine.{with_arg}
use Rattle.mig_command.proofs.words.send_command.Goals as goal

pub returns : goal.returns
returns c =
    let step-1 = with_arg _ _ _ _ _ (record { has_app = c.new.ensures.app; has_no_globals = c.new.ensures.local }) c.file_name.ensures c.in_ok-arg.ensures in
    let step-2 = with_arg _ _ _ _ _ step-1 c.file_name-2.ensures c.in_ok-arg-2.ensures in
    let step-3 = with_arg _ _ _ _ _ step-2 c.channels_option.ensures c.in_ok-arg-3.ensures in
    let step-4 = with_arg _ _ _ _ _ step-3 c.batch_option.ensures c.in_ok-arg-4.ensures in
    let step-5 = with_arg _ _ _ _ _ step-4 c.uuid_option.ensures c.in_ok-arg-5.ensures in
    IfOk-weaker c.arg-6.result _ _ (λ r h. with_arg _ _ _ _ r step-5 c.page_option.ensures h) c.arg-6.ensures
