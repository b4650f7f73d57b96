use Rattle.std.proofs.Common.{◌≡◌, ◌∙◌, sym, true}
use Rattle.mig_answer.specs.Status.{is_clean}
use Rattle.mig_answer.proofs.ToldSources.{all_standings}
use Rattle.mig_answer.proofs.verdicts.all_clean.Goals as goal

pub returns-then-is_clean : goal.returns-then-is_clean
returns-then-is_clean c =
    let on : is_clean c.args.main ≡ true = sym c.is_clean.ensures ∙ c.if-is_clean.true in
    rw on (c.each_clean.ensures ∙ all_standings is_clean 0 c.args.channels.now)
