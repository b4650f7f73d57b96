use Rattle.mig_mapped.proofs.Bits.{put_at, cleared_at}
use Rattle.mig_mapped.proofs.bitmap.put_bit.Goals as goal

pub returns-then-bit-clause-bits : goal.returns-then-bit-clause-bits
returns-then-bit-clause-bits c =
    λ q. put_at c.args.order c.args.bitmap.now c.args.page q c.byte_of-at.result c.args.bit c.byte_of-at.ensures c.if-bit.true c.requires

pub returns-clause-bits : goal.returns-clause-bits
returns-clause-bits c =
    λ q. cleared_at c.args.order c.args.bitmap.now c.args.page q c.byte_of-at.result c.args.bit c.byte_of-at.ensures c.if-bit.false c.requires
