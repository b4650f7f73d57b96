use Rattle.std.proofs.Common.{ℕ, List, Option, IfSome, refl, ap, subst}
use Rattle.std.specs.Io.KnownBytes.{Appends}
use Rattle.mig_stream.specs.Writer.{Writer}
use Rattle.zimgasol_files.specs.Differing.{piece_of}
use Rattle.zimgasol_saving.specs.Written.{IsSending, HasSentSection}
use Rattle.zimgasol_saving.proofs.Streams.{same_sent, same_pages, section_sent}
use Rattle.zimgasol_saving.proofs.send.Sending.send.Goals as goal

pub returns-then-are_same : goal.returns-then-are_same
returns-then-are_same g c =
    same_sent (IsSending c.args.self) (g.W.Write.contents c.args.out.now) c.args.block c.args.first (piece_of c.args.pages.now)
    (same_pages c.args.pages.now c.are_same.result c.if-are_same.true c.are_same.ensures)

pub returns : goal.returns
returns g c =
    let section = subst
    (λ (o : Option (ℕ × Writer)). IfSome o (λ r. HasSentSection c.args.block c.args.first (piece_of c.args.pages.now) c.args.self.sender r.1))
    c.in-Some.is c.in_ok-count.ensures.sent in
    section_sent (g.W.Write.contents c.args.out.now) (g.W.Write.contents c.write.new.out) c.args.block c.args.first (piece_of c.args.pages.now)
    c.drain_into.new.bytes.items c.set_id.new.bytes.items c.args.self _ c.in-Some.sender
    (subst (λ (b : List ℕ). Appends (g.W.Write.contents c.args.out.now) (g.W.Write.contents c.write.new.out) b) c.deref.ensures.value c.in_ok-write.ensures)
    section c.drain_into.ensures.table c.drain_into.ensures.all c.drain_into.ensures.drained refl
    (λ none. ap (λ v. v.items) (c.set_id.ensures.none none)) c.set_id.ensures.section
