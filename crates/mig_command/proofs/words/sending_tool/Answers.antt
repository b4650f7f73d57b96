use Rattle.std.proofs.Common.{◌∙◌, ap, true}
use Rattle.std.proofs.lemmas.Result.{IfOk-weaker}
use Rattle.clap.specs.Simple.{app_of_fields}
use Rattle.clap.specs.Words.{App}
use Rattle.mig_command.specs.Words.{IsCommand, program_app}
use Rattle.mig_command.proofs.CommandLine.{with_command}
use Rattle.mig_command.proofs.words.sending_tool.Goals as goal

pub returns : goal.returns
returns c =
    let program : IsCommand program_app c.no_binary_name.result = record {
      has_app = ap app_of_fields c.no_binary_name.ensures ∙ ap (λ (a : App). record a { top = record a.top { no_binary_name = true } }) c.new.ensures.app;
      has_no_globals = ap (λ f. f.has_globals) c.no_binary_name.ensures ∙ c.new.ensures.local;
    } in
    let step-1 = with_command _ _ _ _ _ program c.in_ok-check_command.ensures c.in_ok-subcommand.ensures in
    IfOk-weaker c.subcommand-2.result _ _ (λ r h. with_command _ _ _ _ r step-1 c.in_ok-send_command.ensures h) c.subcommand-2.ensures
