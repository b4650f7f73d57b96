use Rattle.std.proofs.Common.{Option, Some, IfSome, ◌≡◌, ◌∙◌, sym, subst}
use Rattle.zimgasol_files.specs.Differing.{piece_of}
use Rattle.zimgasol_saving.specs.declared.send.Sending.{Sending}
use Rattle.zimgasol_saving.specs.Written.{IsSending, SendsPiece}
use Rattle.zimgasol_saving.specs.Blocks.{HoldsSending}
use Rattle.zimgasol_saving.proofs.blocks.SinglePieceSink.send.Goals as goal

pub returns-in-Some-2 : goal.returns-in-Some-2
returns-in-Some-2 g c = λ _.
    let had : c.args.self.now.sending ≡ Some c.in-Some.sending = sym c.take.ensures.value ∙ c.in-Some.is in
    subst
    (λ (o : Option Sending). SendsPiece (HoldsSending o) (IsSending c.in-Some-2.sending) (g.W.Write.contents c.args.out.now)
    (g.W.Write.contents c.send.new.out) c.args.block c.args.first (piece_of c.args.pages.now))
    (sym had)
    (subst
    (λ (o : Option Sending). IfSome o (λ s. SendsPiece (IsSending c.in-Some.sending) (IsSending s) (g.W.Write.contents c.args.out.now)
    (g.W.Write.contents c.send.new.out) c.args.block c.args.first (piece_of c.args.pages.now)))
    c.in-Some-2.is c.in_ok-sending.ensures)
