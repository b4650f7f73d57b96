use Rattle.zimgasol_saving.proofs.BlockSteps.{SendsTo}
use Rattle.zimgasol_saving.proofs.blocks.send_pieces.Given as goal

abbrev pub invariant-pieces : goal.invariant-pieces
invariant-pieces g l =
    SendsTo (g.F.Read.remaining) (g.S.PieceSink.holds l.fn.sink) (g.S.PieceSink.holds l.sink) (g.W.Write.contents l.fn.out) (g.W.Write.contents l.out)
    l.block l.fn.reading l.first l.reading
