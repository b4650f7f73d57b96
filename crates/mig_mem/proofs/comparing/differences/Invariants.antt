use Rattle.mig_mem.specs.Buffers.{buffers_of}
use Rattle.mig_mem.proofs.Differing.{DifferingRows}
use Rattle.mig_mem.proofs.comparing.differences.Given as goal

abbrev pub invariant-loop-block : goal.invariant-loop-block
invariant-loop-block g l = DifferingRows l.a l.b l.block (buffers_of l.rows.items)
