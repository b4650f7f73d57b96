use Rattle.std.proofs.Common.{◌≡◌, take}
use Rattle.mig_mem.proofs.memory.Memory.try_copy.Given as goal

abbrev pub invariant-loop-pages : goal.invariant-loop-pages
invariant-loop-pages g l = l.blocks.items ≡ take l.pages-index l.self-inside.blocks.items
