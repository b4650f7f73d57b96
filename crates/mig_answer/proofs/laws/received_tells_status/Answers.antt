use Rattle.mig_answer.proofs.Received.{received_law, stop_law, counted_law}
use Rattle.mig_answer.proofs.ReceivedTogether.{together_law}
use Rattle.mig_answer.proofs.laws.received_tells_status.Goals as goal

pub returns-clause-channel : goal.returns-clause-channel
returns-clause-channel c = received_law

pub returns-clause-stop : goal.returns-clause-stop
returns-clause-stop c = stop_law

pub returns-clause-counted : goal.returns-clause-counted
returns-clause-counted c = counted_law

pub returns-clause-all_channels : goal.returns-clause-all_channels
returns-clause-all_channels c = together_law
