use Rattle.std.proofs.Common.{inr}
use Rattle.mig_answer.specs.Texts.{ended_texts}
use Rattle.mig_answer.specs.MultiLoad.{bytes_of, answer_of}
use Rattle.mig_relay.proofs.Relays.{relay_starts}
use Rattle.mig_relay.proofs.Relaying.{is_without_memory, sending_is_loaded_within, machine_sending_is_loaded}
use Rattle.mig_relay.proofs.multi.load_multi_with.Goals as goal

pub returns-in_default-clause-answer : goal.returns-in_default-clause-answer
returns-in_default-clause-answer g c =
    inr (is_without_memory c.args.settings c.args.uuid.now (ended_texts c.args.main.now (bytes_of c.args.channels.now)) c.without_memory.result
    c.requires.page_size c.without_memory.ensures)

pub returns-in_default-clause-machine : goal.returns-in_default-clause-machine
returns-in_default-clause-machine g c =
    let texts = ended_texts c.args.main.now (bytes_of c.args.channels.now) in
    machine_sending_is_loaded c.args.settings c.args.uuid.now c.args.main.now (bytes_of c.args.channels.now) (answer_of c.without_memory.result)
    (inr (is_without_memory c.args.settings c.args.uuid.now texts c.without_memory.result c.requires.page_size c.without_memory.ensures))

pub returns-in_default-clause-streams : goal.returns-in_default-clause-streams
returns-in_default-clause-streams g c = inr c.without_memory.ensures

pub returns-clause-answer : goal.returns-clause-answer
returns-clause-answer g c =
    (c.load.ensures c.args.uuid.now (bytes_of c.args.channels.now) c.requires.page_size
    (relay_starts c.args.settings.page_size c.args.settings.waiting c.args.uuid.now c.args.channels.now c.in-Ok.collector
    c.requires.channels.0 c.in-Ok.ensures.start)).0

pub returns-clause-streams : goal.returns-clause-streams
returns-clause-streams g c =
    (c.load.ensures c.args.uuid.now (bytes_of c.args.channels.now) c.requires.page_size
    (relay_starts c.args.settings.page_size c.args.settings.waiting c.args.uuid.now c.args.channels.now c.in-Ok.collector
    c.requires.channels.0 c.in-Ok.ensures.start)).1

pub returns-clause-machine : goal.returns-clause-machine
returns-clause-machine g c =
    machine_sending_is_loaded c.args.settings c.args.uuid.now c.args.main.now (bytes_of c.args.channels.now) (answer_of c.load.result)
    (c.load.ensures c.args.uuid.now (bytes_of c.args.channels.now) c.requires.page_size
    (relay_starts c.args.settings.page_size c.args.settings.waiting c.args.uuid.now c.args.channels.now c.in-Ok.collector
    c.requires.channels.0 c.in-Ok.ensures.start)).0

pub returns-in_default-clause-sent : goal.returns-in_default-clause-sent
returns-in_default-clause-sent g c =
    let texts = ended_texts c.args.main.now (bytes_of c.args.channels.now) in
    sending_is_loaded_within c.args.settings c.args.uuid.now c.args.main.now (bytes_of c.args.channels.now) (answer_of c.without_memory.result)
    (inr (is_without_memory c.args.settings c.args.uuid.now texts c.without_memory.result c.requires.page_size c.without_memory.ensures))

pub returns-clause-sent : goal.returns-clause-sent
returns-clause-sent g c =
    sending_is_loaded_within c.args.settings c.args.uuid.now c.args.main.now (bytes_of c.args.channels.now) (answer_of c.load.result)
    (c.load.ensures c.args.uuid.now (bytes_of c.args.channels.now) c.requires.page_size
    (relay_starts c.args.settings.page_size c.args.settings.waiting c.args.uuid.now c.args.channels.now c.in-Ok.collector
    c.requires.channels.0 c.in-Ok.ensures.start)).0
