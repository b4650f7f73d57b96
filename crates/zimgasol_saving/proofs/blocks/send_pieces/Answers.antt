use Rattle.std.proofs.Common.{◌*◌, ◌-◌, ◌∙◌, drop, sym}
use Rattle.std.specs.Option.{option_map}
use Rattle.std.proofs.lemmas.Bool.{false≢true}
use Rattle.zimgasol_saving.proofs.BlockSteps.{pages_none, pages_more, pages_end}
use Rattle.zimgasol_saving.proofs.blocks.send_pieces.Goals as goal

pub pieces-init : goal.pieces-init
pieces-init g c = λ size n s front table text pages some small at had.
    pages_none (g.F.Read.remaining) (g.S.PieceSink.holds c.args.sink.now) (g.W.Write.contents c.args.out.now) size c.args.part.now.block n s
    c.args.reading.now front table text pages at had

pub pieces-preserved : goal.pieces-preserved
pieces-preserved g c = λ size n s front table text pages some small at had.
    let has = c.pieces.invariant size n s front table text pages some small at had in
    let on = c.in_ok-is_more.ensures size (n * size - c.pieces.first * size) (drop (c.pieces.first * size) s.bytes)
    (option_map (λ o. drop (c.pieces.first * size) o) s.before) has.is_read in
    pages_more (g.F.Read.remaining) (g.S.PieceSink.holds c.pieces.sink) (g.S.PieceSink.holds c.send_piece.new.sink)
    (g.W.Write.contents c.args.out.now) (g.W.Write.contents c.pieces.out) (g.W.Write.contents c.send_piece.new.out) size c.args.part.now.block n
    c.pieces.first c.saturating_add-first.result on.0 c.in_ok-count.count s c.pieces.reading c.read_on.new.self front table text pages some small has on.2
    c.in_ok-count.ensures.count c.in_ok-count.ensures.sent c.saturating_add-first.ensures

pub returns-then-not-is_more : goal.returns-then-not-is_more
returns-then-not-is_more g c = λ size n s some small at front table text pages had.
    let has = c.pieces.invariant size n s front table text pages some small at had in
    let on = c.in_ok-is_more.ensures size (n * size - c.pieces.first * size) (drop (c.pieces.first * size) s.bytes)
    (option_map (λ o. drop (c.pieces.first * size) o) s.before) has.is_read in
    (pages_end (g.F.Read.remaining) (g.S.PieceSink.holds c.pieces.sink) (g.W.Write.contents c.args.out.now) (g.W.Write.contents c.pieces.out)
    size c.args.part.now.block n c.pieces.first on.0 c.in_ok-is_more.is_more s c.pieces.reading c.read_on.new.self front table text pages some has
    (λ t. false≢true (sym c.if-not-is_more.true ∙ t)) on.1 on.2).1
