use Rattle.mig_mem.proofs.Bits.{set_fewer}
use Rattle.mig_mem.proofs.marks.unset.Goals as goal

pub returns : goal.returns
returns c = λ q. set_fewer c.args.words.now c.args.page q c.requires
