use Rattle.mig_mem.specs.Buffers.{buffers_of}
use Rattle.mig_mem.proofs.Sets.{ClearedUpTo}
use Rattle.mig_mem.proofs.dirty.clear_rows.Given as goal

abbrev pub invariant-loop-i : goal.invariant-loop-i
invariant-loop-i g l = ClearedUpTo (buffers_of l.initial.rows) (buffers_of l.rows) l.i
