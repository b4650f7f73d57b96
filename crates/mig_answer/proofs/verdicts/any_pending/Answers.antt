use Rattle.std.proofs.Common.{◌≡◌, ◌∙◌, sym, false}
use Rattle.mig_answer.specs.Status.{is_pending}
use Rattle.mig_answer.proofs.ToldSources.{any_standings}
use Rattle.mig_answer.proofs.verdicts.any_pending.Goals as goal

pub returns-else-is_pending : goal.returns-else-is_pending
returns-else-is_pending c =
    let off : is_pending c.args.main ≡ false = sym c.is_pending.ensures ∙ c.if-is_pending.false in
    rw off (c.some_pending.ensures ∙ any_standings is_pending 0 c.args.channels.now)
