-- The value that a handle of C owns.
use Rattle.std.specs.Prelude.{Option, None, Some}
use base.Fml.{Fml, ftrue}
use denote.RawPtr.{Ptr}
use Rattle.std.specs.declared.alloc.Global.{Global}
use Rattle.std.specs.contracts.impls.GlobalAllocator.TheImpl.{ghosts}
use Rattle.std.specs.Box.Ownership.{box_owns}
use Rattle.mig_c.specs.declared.object.Object.{Object}
use Rattle.mig_c.specs.contracts.object.Object.{the_row}

-- the heap
abbrev pub heap : Global
heap = record { memory = record { seal = tt } }

-- The block at the pointer with the object in it, and the right to free it. A handle without an
-- object owns nothing.
abbrev pub owned : Ptr → Option Object → Fml
owned at None = ftrue
owned at (Some x) = box_owns (ghosts.dealloc_token heap) the_row at x
