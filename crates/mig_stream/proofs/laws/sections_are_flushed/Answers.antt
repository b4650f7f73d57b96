use Rattle.mig_stream.proofs.Flushed.{sections_are_flushed}
use Rattle.mig_stream.proofs.NoTail.{sections_have_no_tail}
use Rattle.mig_stream.proofs.MoreRounds.{sections_are_more}
use Rattle.mig_stream.proofs.laws.sections_are_flushed.Goals as goal

pub returns-clause-flushed : goal.returns-clause-flushed
returns-clause-flushed c = sections_are_flushed

pub returns-clause-tail : goal.returns-clause-tail
returns-clause-tail c = sections_have_no_tail

pub returns-clause-more : goal.returns-clause-more
returns-clause-more c = sections_are_more
