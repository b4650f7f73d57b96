use Rattle.std.proofs.Common.{◌≡◌}
use Rattle.mig_mapped.specs.Block.{mapped_block}
use Rattle.mig_mapped.specs.Load.{cleared}
use Rattle.mig_mapped.proofs.load.clear_unset.Given as goal

abbrev pub invariant-loop-page : goal.invariant-loop-page
invariant-loop-page g l =
    g.M.GuestTarget.image l.memory ≡ cleared l.index.given (mapped_block l.index.blocks l.block) l.block l.page (g.M.GuestTarget.image l.fn.memory)
