use Rattle.std.proofs.Common.{◌∙◌, sym, ap}
use Rattle.std.specs.Option.{option_map}
use Rattle.mig_load_types.specs.declared.fault.Fault.TheVariants as fault
use Rattle.mig_load_types.specs.declared.fault.Origin.TheVariants as origin
use Rattle.mig_answer.specs.Status.{is_clean, is_whole}
use Rattle.mig_answer.specs.MultiLoad.{failed, failed_at_first}
use Rattle.mig_answer.specs.Told.{standings}
use Rattle.mig_answer.proofs.ToldSources.{failed_standings, or_none}
use Rattle.mig_answer.proofs.verdicts.unequal_verdict.Goals as goal

pub returns-in-Clean : goal.returns-in-Clean
returns-in-Clean c =
    rw c.in-Clean.is (c.failed_at.ensures
    ∙ ap (option_map (λ j. failed c.args.round (origin.Channel j) fault.Extra)) c.first_whole.ensures
    ∙ failed_standings c.args.round is_whole fault.Extra c.args.channels.now
    ∙ sym (or_none (failed_at_first c.args.round is_whole fault.Extra (standings c.args.channels.now))))

pub returns-in-Whole : goal.returns-in-Whole
returns-in-Whole c =
    rw c.in-Whole.is (c.failed_at-in-Whole.ensures
    ∙ ap (option_map (λ j. failed c.args.round (origin.Channel j) fault.Short)) c.first_clean.ensures
    ∙ failed_standings c.args.round is_clean fault.Short c.args.channels.now
    ∙ sym (or_none (failed_at_first c.args.round is_clean fault.Short (standings c.args.channels.now))))
