use Rattle.std.proofs.Common.{◌∙◌, ap, sym, codes}
use Rattle.mig_scenario.specs.declared.layout.Layout.{Layout}
use Rattle.mig_command.specs.declared.request.Request.TheVariants as request
use Rattle.mig_command.specs.Words.{GiveLayout, GiveLoad}
use Rattle.mig_command.proofs.CommandLine.{are_options, no_options, passes_check, meets, no_command, met, none_met, ok_same, err_ok}
use Rattle.mig_command.proofs.words.asked.Goals as goal

pub returns-then-is_empty-clause-ok : goal.returns-then-is_empty-clause-ok
returns-then-is_empty-clause-ok c = λ layout ask.
    ap (λ (l : Layout). request.Check l) (no_options c.args.words.now layout (sym c.is_empty.ensures ∙ c.if-is_empty.true) ask)

pub returns-in-Err-clause-err : goal.returns-in-Err-clause-err
returns-in-Err-clause-err c = λ layout ask.
    let options = are_options c.args.words.now layout (sym c.is_empty.ensures ∙ c.if-is_empty.false) ask in
    c.unread.ensures (c.in-Err.ensures.passes (passes_check _ _ c.in-Ok.ensures.has_app options.1))

pub returns-in_default-subcommand-clause-err : goal.returns-in_default-subcommand-clause-err
returns-in_default-subcommand-clause-err c = λ layout ask.
    let options = are_options c.args.words.now layout (sym c.is_empty.ensures ∙ c.if-is_empty.false) ask in
    let rows = meets _ _ (codes "check") options.0 _ c.in-Ok.ensures.has_app options.2 c.in-Ok-try_get_matches_from.ensures.matches in
    absurd (none_met _ c.subcommand.result (codes "check") options.0 rows c.subcommand.ensures.name c.in_default-subcommand.is)

pub returns-in-Ok-request_in-clause-ok : goal.returns-in-Ok-request_in-clause-ok
returns-in-Ok-request_in-clause-ok c = λ layout ask.
    let options = are_options c.args.words.now layout (sym c.is_empty.ensures ∙ c.if-is_empty.false) ask in
    let rows = meets _ _ (codes "check") options.0 _ c.in-Ok.ensures.has_app options.2 c.in-Ok-try_get_matches_from.ensures.matches in
    let both = met _ c.subcommand.result c.in-Some.name c.in-Some.matches
    (codes "check") options.0 rows c.subcommand.ensures.name c.subcommand.ensures.rows c.in-Some.is in
    let gives : GiveLayout _ layout = rw (sym both.1) at options.3 in
    ok_same c.in-Ok-request_in.request (request.Check layout) (c.in-Ok-request_in.ensures.check layout both.0 gives)

pub returns-clause-err : goal.returns-clause-err
returns-clause-err c = λ layout ask.
    let options = are_options c.args.words.now layout (sym c.is_empty.ensures ∙ c.if-is_empty.false) ask in
    let rows = meets _ _ (codes "check") options.0 _ c.in-Ok.ensures.has_app options.2 c.in-Ok-try_get_matches_from.ensures.matches in
    let both = met _ c.subcommand.result c.in-Some.name c.in-Some.matches
    (codes "check") options.0 rows c.subcommand.ensures.name c.subcommand.ensures.rows c.in-Some.is in
    let gives : GiveLayout _ layout = rw (sym both.1) at options.3 in
    absurd (err_ok c.in-Err-request_in.fault (request.Check layout) (c.in-Err-request_in.ensures.check layout both.0 gives))

pub returns-then-is_empty-clause-send : goal.returns-then-is_empty-clause-send
returns-then-is_empty-clause-send c = λ layout ask. absurd (no_command c.args.words.now _ ask.0 (sym c.is_empty.ensures ∙ c.if-is_empty.true) ask.1)

pub returns-then-is_empty-clause-load : goal.returns-then-is_empty-clause-load
returns-then-is_empty-clause-load c = λ page_size channels limit ask. absurd
    (no_command c.args.words.now _ ask.0 (sym c.is_empty.ensures ∙ c.if-is_empty.true) ask.1)

pub returns-in-Ok-request_in-clause-send : goal.returns-in-Ok-request_in-clause-send
returns-in-Ok-request_in-clause-send c = λ layout ask.
    let rows = meets _ _ (codes "send") ask.0 _ c.in-Ok.ensures.has_app ask.1.is_met c.in-Ok-try_get_matches_from.ensures.matches in
    let both = met _ c.subcommand.result c.in-Some.name c.in-Some.matches
    (codes "send") ask.0 rows c.subcommand.ensures.name c.subcommand.ensures.rows c.in-Some.is in
    let gives : GiveLayout _ layout = rw (sym both.1) at ask.2 in
    c.in-Ok-request_in.ensures.send layout both.0 gives

pub returns-in-Ok-request_in-clause-load : goal.returns-in-Ok-request_in-clause-load
returns-in-Ok-request_in-clause-load c = λ page_size channels limit ask.
    let rows = meets _ _ (codes "load") ask.0 _ c.in-Ok.ensures.has_app ask.1.is_met c.in-Ok-try_get_matches_from.ensures.matches in
    let both = met _ c.subcommand.result c.in-Some.name c.in-Some.matches
    (codes "load") ask.0 rows c.subcommand.ensures.name c.subcommand.ensures.rows c.in-Some.is in
    let gives : GiveLoad _ page_size channels limit = rw (sym both.1) at ask.2 in
    c.in-Ok-request_in.ensures.load page_size channels limit both.0 gives
