use Rattle.mig_mem.proofs.Skips.{step_all, step_part}
use Rattle.mig_mem.proofs.skipping.step_over.Goals as goal

pub returns-then-ones-left : goal.returns-then-ones-left
returns-then-ones-left c = step_all c.args.bits c.args.room c.args.left c.from-ones.result c.requires.room c.requires.bits
    c.from-ones.ensures c.if-ones-left.true

pub returns-then-room-ge-PART : goal.returns-then-room-ge-PART
returns-then-room-ge-PART c = step_part c.args.bits c.args.room c.args.left c.from-low.result c.if-room-ge-PART.true c.from-low.ensures c.if-low-left.true
