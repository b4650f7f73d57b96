use Rattle.std.proofs.Common.{◌≡◌, ◌/◌, ◌<◌, length, subst}
use Rattle.zimgasol_files.specs.Differing.{Piece}
use Rattle.zimgasol_saving.specs.Written.{SendsPiece}
use Rattle.zimgasol_saving.proofs.blocks.send_piece.Goals as goal

pub returns-clause-count : goal.returns-clause-count
returns-clause-count g c = λ piece has some.
    subst (λ (p : Piece). 0 < p.size → c.count.result ≡ length p.bytes / p.size) (c.pages-pages.ensures piece has) c.count.ensures some

pub returns-clause-sent : goal.returns-clause-sent
returns-clause-sent g c = λ piece has.
    subst (λ (p : Piece). SendsPiece (g.S.PieceSink.holds c.args.sink.now) (g.S.PieceSink.holds c.send.new.self)
    (g.W.Write.contents c.args.out.now) (g.W.Write.contents c.send.new.out) c.args.block c.args.first p)
    (c.pages-pages.ensures piece has) (c.in_ok-is_sent.ensures c.if-not-is_sent.false)
