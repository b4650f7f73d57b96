use Rattle.mig_packet.proofs.Finding.{found}
use Rattle.mig_packet.proofs.front.read_packet.Goals as goal

pub returns-clause-found : goal.returns-clause-found
returns-clause-found c = λ front more said. found c.args.page_size c.args.bytes.now front more said c.read_front.result c.read_front.ensures
