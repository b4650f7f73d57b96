use Rattle.std.proofs.Common.{List}
use Rattle.zimgasol_saving.specs.Sent.{Source}
use Rattle.zimgasol_saving.specs.Blocks.{AreKnown, SendsBlocks}
use Rattle.zimgasol_saving.proofs.blocks.send_blocks.Given as goal

abbrev pub invariant-each : goal.invariant-each
invariant-each g l = (sources : List Source) → AreKnown (g.B.BlockFiles.source l.files) l.table sources
    → SendsBlocks (g.S.PieceSink.holds l.fn.sink) (g.S.PieceSink.holds l.sink) (g.W.Write.contents l.fn.out) (g.W.Write.contents l.out) l.table sources l.block
