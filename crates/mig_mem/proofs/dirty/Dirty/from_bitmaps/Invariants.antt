use Rattle.mig_mem.specs.Buffers.{buffers_of}
use Rattle.mig_mem.specs.Bitmaps.{lent_words}
use Rattle.mig_mem.proofs.BitmapRows.{AreRowsOf}
use Rattle.mig_mem.proofs.dirty.Dirty.from_bitmaps.Given as goal

abbrev pub invariant-loop-block : goal.invariant-loop-block
invariant-loop-block g l = AreRowsOf l.table (lent_words l.bitmaps) l.block (buffers_of l.rows.items)
