use Rattle.std.proofs.Common.{subst}
use Rattle.mig_load_types.specs.declared.settings.LoadSettings.{LoadSettings}
use Rattle.mig_answer.specs.Texts.{ended_texts}
use Rattle.mig_answer.specs.MultiLoad.{IsAnswerOrWithoutMemory, SaysOfStreamsOrNothing, answer_of}
use Rattle.mig_relay.proofs.relayed.load_relayed.Goals as goal

pub returns-clause-answer : goal.returns-clause-answer
returns-clause-answer g c = λ page_size waiting uuid texts is.
    subst (λ (given : LoadSettings). IsAnswerOrWithoutMemory (record given { page_size = page_size; waiting = waiting }) uuid
    (ended_texts c.args.main.now texts)
    (answer_of c.load_relayed_with.result))
    c.new-settings.ensures (c.load_relayed_with.ensures.answer page_size waiting uuid texts is)

pub returns-clause-streams : goal.returns-clause-streams
returns-clause-streams g c = λ page_size waiting uuid texts is.
    subst (λ (given : LoadSettings). SaysOfStreamsOrNothing (record given { page_size = page_size; waiting = waiting }) uuid (ended_texts c.args.main.now texts)
    c.load_relayed_with.result)
    c.new-settings.ensures (c.load_relayed_with.ensures.streams page_size waiting uuid texts is)
