use Rattle.std.proofs.Common.{subst}
use Rattle.std.specs.Prelude.{◌⊎◌}
use Rattle.mig_load_types.specs.declared.settings.LoadSettings.{LoadSettings}
use Rattle.mig_single_load.specs.SingleLoad.{IsSingleAnswer, IsSingleWithoutMemory}
use Rattle.mig_single_load.proofs.Sections.{sent_is_loaded}
use Rattle.mig_single_load.proofs.single.load_single.Goals as goal

pub returns-clause-sent : goal.returns-clause-sent
returns-clause-sent g c =
    let text = c.args.text.now in
    let loaded = c.load_single_with.result in
    sent_is_loaded c.args.page_size c.args.limit text loaded c.requires.page_size
    (subst (λ (given : LoadSettings). IsSingleAnswer given text loaded
    ⊎ IsSingleWithoutMemory given text loaded) c.new.ensures c.load_single_with.ensures.answer)
