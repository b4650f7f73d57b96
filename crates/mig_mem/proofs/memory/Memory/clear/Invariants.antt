use Rattle.std.proofs.Common.{◌≡◌, ◌++◌, map, take, drop}
use Rattle.mig_mem.specs.BlockPages.{cleared}
use Rattle.mig_mem.proofs.memory.Memory.clear.Given as goal

abbrev pub invariant-loop-pages : goal.invariant-loop-pages
invariant-loop-pages g l = l.pages-items ≡ map cleared (take l.pages-index l.initial.pages-items) ++ drop l.pages-index l.initial.pages-items
