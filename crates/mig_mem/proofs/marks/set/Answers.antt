use Rattle.mig_mem.proofs.Bits.{set_more}
use Rattle.mig_mem.proofs.marks.set.Goals as goal

pub returns : goal.returns
returns c = λ q. set_more c.args.words.now c.args.page q c.requires
