use Rattle.std.specs.Io.KnownBytes.{Appends, append_known}
use Rattle.mig_image.proofs.Written.{first_blocks_bytes}
use Rattle.mig_image.proofs.writing.put_image.Given as goal

abbrev pub invariant-loop-block : goal.invariant-loop-block
invariant-loop-block g l = Appends (g.W.Write.contents l.fn.out) (append_known (g.W.Write.contents l.out) l.buffer.items) (first_blocks_bytes l.memory l.block)
