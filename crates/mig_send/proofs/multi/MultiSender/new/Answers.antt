use Rattle.std.proofs.Common.{[]}
use Rattle.mig_send.proofs.multi.MultiSender.new.Goals as goal

pub returns-clause-none : goal.returns-clause-none
returns-clause-none g c = c.in_ok-of_writer.ensures.none [] c.in_ok-main.ensures.none
