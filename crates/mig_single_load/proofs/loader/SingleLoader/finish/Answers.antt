use Rattle.std.proofs.Common.{subst, sym}
use Rattle.mig_load_types.specs.Settings.{ram_settings}
use Rattle.mig_single_load.specs.Loader.{Loader, Loads, Answers}
use Rattle.mig_stream.specs.Written.{single}
use Rattle.mig_single_load.proofs.MachineSent.{sent_is_finished, ram_is_finished, machine_is_finished}
use Rattle.mig_single_load.proofs.loader.SingleLoader.finish.Goals as goal

pub returns-clause-answers : goal.returns-clause-answers
returns-clause-answers g c = λ given text ended loads.
    subst (λ (l : Loader). Answers given l text c.answer.result) c.self.view_is
    (c.answer.ensures given text ended (subst (λ (l : Loader). Loads given l text ended) (sym c.self.view_is) loads))

pub returns-clause-sent : goal.returns-clause-sent
returns-clause-sent g c = λ table rounds limit ended is room all loads.
    sent_is_finished limit c.args.self c.answer.result table rounds is room all
    (returns-clause-answers g c (ram_settings table.page_size limit) (single table rounds) ended loads)

pub returns-clause-machine : goal.returns-clause-machine
returns-clause-machine g c = λ table rounds given text ended frame lets same sent loads.
    machine_is_finished given c.args.self text c.answer.result table rounds loads.is_page_size frame lets same sent
    (returns-clause-answers g c given text ended loads)

pub returns-clause-within : goal.returns-clause-within
returns-clause-within g c = λ table rounds given text ended frame lets same sent loads.
    ram_is_finished given c.args.self text c.answer.result table rounds loads.is_page_size frame lets same sent
    (returns-clause-answers g c given text ended loads)
