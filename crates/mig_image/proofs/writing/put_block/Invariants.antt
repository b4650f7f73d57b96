use Rattle.std.specs.Io.KnownBytes.{Appends, append_known}
use Rattle.mig_image.proofs.Written.{first_pages_bytes}
use Rattle.mig_image.proofs.writing.put_block.Given as goal

abbrev pub invariant-loop-page : goal.invariant-loop-page
invariant-loop-page g l = Appends (append_known (g.W.Write.contents l.initial.out) l.initial.buffer.items)
    (append_known (g.W.Write.contents l.out) l.buffer.items) (first_pages_bytes l.memory l.block l.page)
