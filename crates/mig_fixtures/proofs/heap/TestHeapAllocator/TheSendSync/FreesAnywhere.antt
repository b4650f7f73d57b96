-- Any thread may free a block, if any thread may free a block of the inner allocator. So threads
-- may share a `&TestHeap`.
use mir.Syntax.{Dict}
use denote.RattleType.{RattleType}
use denote.Param.Send.{Frees}
use Rattle.std.specs.declared.alloc.Allocator.{Ghosts}
use Rattle.mig_fixtures.specs.contracts.heap.TestHeapAllocator.TheImpl.{ghosts}

-- any thread may free a block, if any thread may free a block of the inner allocator
pub frees : (A : RattleType) (g : Ghosts A.Denot) (d e : Dict) → Frees g g.dealloc_token → Frees (ghosts A g d e) (ghosts A g d e).dealloc_token
frees A g d e f = record { frees = λ a. f.frees a.inner }
