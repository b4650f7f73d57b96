use Rattle.std.proofs.lemmas.Result.{IfOk-weaker}
use Rattle.mig_command.proofs.CommandLine.{with_command}
use Rattle.mig_command.proofs.words.tool_command.Goals as goal

pub returns : goal.returns
returns c =
    let step-1 = with_command _ _ _ _ _ c.in_ok-sending_tool.ensures c.in_ok-load_command.ensures c.in_ok-subcommand.ensures in
    IfOk-weaker c.subcommand-2.result _ _ (λ r h. with_command _ _ _ _ r step-1 c.in_ok-compare_command.ensures h) c.subcommand-2.ensures
