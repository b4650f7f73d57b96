use Rattle.std.proofs.Common.{subst}
use Rattle.mig_load_types.specs.declared.settings.LoadSettings.{LoadSettings}
use Rattle.mig_answer.specs.Texts.{ended_texts}
use Rattle.mig_answer.specs.MultiLoad.{IsAnswerOrWithoutMemory, SaysOfStreamsOrNothing, answer_of, bytes_of}
use Rattle.mig_relay.proofs.Relaying.{sending_is_loaded}
use Rattle.mig_relay.proofs.multi.load_multi.Goals as goal

pub returns-clause-sent : goal.returns-clause-sent
returns-clause-sent g c =
    let main = c.args.main.now in
    let channels = bytes_of c.args.channels.now in
    let answer = answer_of c.load_multi_with.result in
    sending_is_loaded c.args.page_size c.args.uuid.now c.args.limit main channels answer
    (subst (λ (given : LoadSettings). IsAnswerOrWithoutMemory given c.args.uuid.now (ended_texts main channels) answer)
    c.new-settings.ensures c.load_multi_with.ensures.answer)

pub returns-clause-streams : goal.returns-clause-streams
returns-clause-streams g c =
    subst (λ (given : LoadSettings). SaysOfStreamsOrNothing given c.args.uuid.now
    (ended_texts c.args.main.now (bytes_of c.args.channels.now)) c.load_multi_with.result)
    c.new-settings.ensures c.load_multi_with.ensures.streams
