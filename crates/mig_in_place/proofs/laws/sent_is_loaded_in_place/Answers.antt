use Rattle.mig_in_place.proofs.Sendings.{sent_law, within_law}
use Rattle.mig_in_place.proofs.laws.sent_is_loaded_in_place.Goals as goal

pub returns-clause-sent : goal.returns-clause-sent
returns-clause-sent c = sent_law

pub returns-clause-within : goal.returns-clause-within
returns-clause-within c = within_law
