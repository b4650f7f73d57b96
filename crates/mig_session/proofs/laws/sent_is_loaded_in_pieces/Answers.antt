use Rattle.mig_session.specs.Session.{answer_in}
use Rattle.mig_answer.proofs.Headline.{sendings_are_loaded}
use Rattle.mig_answer.proofs.SentWithin.{sendings_are_loaded_within}
use Rattle.mig_session.proofs.laws.sent_is_loaded_in_pieces.Goals as goal

pub returns-clause-sent : goal.returns-clause-sent
returns-clause-sent c = λ s table uuid limit rounds main channels sent room stands.
    sendings_are_loaded table uuid limit rounds main channels (answer_in s) sent room stands.is_answer

pub returns-clause-within : goal.returns-clause-within
returns-clause-within c = λ s given table uuid rounds main channels frame lets flushes size room sent stands.
    sendings_are_loaded_within given table uuid rounds main channels (answer_in s) frame lets flushes size room sent stands.is_answer
