use Rattle.std.proofs.Common.{Option, length, subst}
use Rattle.zimgasol_saving.specs.declared.send.Sending.{Sending}
use Rattle.zimgasol_saving.specs.Written.{IsSending}
use Rattle.zimgasol_saving.specs.Blocks.{SendsBlocks, HoldsSending}
use Rattle.zimgasol_saving.proofs.blocks.send_single.Goals as goal

pub returns-in-Some : goal.returns-in-Some
returns-in-Some g c = λ sources known.
    subst
    (λ (o : Option Sending). SendsBlocks (IsSending c.args.sending) (HoldsSending o) (g.W.Write.contents c.args.out.now)
    (g.W.Write.contents c.send_blocks.new.out) c.args.table.now sources (length c.args.table.now.blocks))
    c.in-Some.is (c.in_ok-send_blocks.ensures sources known)
