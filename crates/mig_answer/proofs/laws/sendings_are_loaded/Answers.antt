use Rattle.mig_answer.proofs.Headline.{sendings_law, one_stream_law}
use Rattle.mig_answer.proofs.SentWithin.{sendings_within_law}
use Rattle.mig_answer.proofs.TwicePages.{twice_law}
use Rattle.mig_answer.proofs.laws.sendings_are_loaded.Goals as goal

pub returns-clause-done : goal.returns-clause-done
returns-clause-done g c = sendings_law c.sendings_are_read_back.ensures

pub returns-clause-same : goal.returns-clause-same
returns-clause-same g c = one_stream_law c.sendings_are_read_back.ensures

pub returns-clause-within : goal.returns-clause-within
returns-clause-within g c = sendings_within_law c.sendings_are_read_back.ensures

pub returns-clause-twice : goal.returns-clause-twice
returns-clause-twice g c = twice_law
