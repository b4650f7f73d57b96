use Rattle.std.proofs.Common.{length, All}
use Rattle.mig_mem.specs.Puts.{HasPageSize}
use Rattle.mig_mem_tests.proofs.threaded_memory.round.Given as goal

abbrev pub invariant-loop-i : goal.invariant-loop-i
invariant-loop-i g l = All (HasPageSize (length l.ones)) l.pages.items

abbrev pub invariant-loop-place : goal.invariant-loop-place
invariant-loop-place g l = All (HasPageSize (length l.ones)) l.pages.items
