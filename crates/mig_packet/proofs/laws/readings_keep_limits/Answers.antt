use Rattle.mig_packet.proofs.Limits.{limits_law}
use Rattle.mig_packet.proofs.laws.readings_keep_limits.Goals as goal

pub returns : goal.returns
returns c = limits_law
