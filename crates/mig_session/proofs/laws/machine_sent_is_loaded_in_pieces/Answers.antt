use Rattle.mig_session.specs.Session.{answer_in}
use Rattle.mig_answer.proofs.SentWithin.{machine_sendings_are_loaded}
use Rattle.mig_session.proofs.laws.machine_sent_is_loaded_in_pieces.Goals as goal

pub returns : goal.returns
returns c = λ s given table uuid rounds main channels frame lets flushes size room sent stands.
    machine_sendings_are_loaded given table uuid rounds main channels (answer_in s) frame lets flushes size room sent stands.is_answer
