use Rattle.mig_packet.proofs.Exists.{one_reading_law}
use Rattle.mig_packet.proofs.laws.text_has_one_reading.Goals as goal

pub returns : goal.returns
returns c = one_reading_law
