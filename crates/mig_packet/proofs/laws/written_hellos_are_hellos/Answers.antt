use Rattle.mig_packet.proofs.ReadBack.{hello_back}
use Rattle.mig_packet.proofs.laws.written_hellos_are_hellos.Goals as goal

pub returns : goal.returns
returns c = hello_back
