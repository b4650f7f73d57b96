use Rattle.std.proofs.Common.{◌≡◌, take}
use Rattle.mig_mem.specs.Buffers.{buffers_of}
use Rattle.mig_mem.proofs.dirty.Dirty.copy_in.Given as goal

abbrev pub invariant-loop-row : goal.invariant-loop-row
invariant-loop-row g l = buffers_of l.words.items ≡ take l.row-index (buffers_of l.self-inside.words.items)
