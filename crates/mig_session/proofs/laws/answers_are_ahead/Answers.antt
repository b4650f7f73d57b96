use Rattle.mig_session.proofs.Ahead.{answers_ahead}
use Rattle.mig_session.proofs.laws.answers_are_ahead.Goals as goal

pub returns : goal.returns
returns c = answers_ahead
