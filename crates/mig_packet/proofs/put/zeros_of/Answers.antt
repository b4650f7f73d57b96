use Rattle.std.proofs.lemmas.List.{take-replicate}
use Rattle.mig_packet.proofs.put.zeros_of.Goals as goal

pub returns : goal.returns
returns c = take-replicate c.args.n 1024 0 c.requires
