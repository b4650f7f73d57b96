use Rattle.std.proofs.Common.{◌+◌, ◌*◌}
use Rattle.mig_mem.proofs.Differing.{MarksBefore, differs_in}
use Rattle.mig_mem.proofs.comparing.word.Given as goal

abbrev pub invariant-loop-bit : goal.invariant-loop-bit
invariant-loop-bit g l = MarksBefore (l.i * 64 + l.bit) (differs_in l.a l.b l.block) l.i l.word
