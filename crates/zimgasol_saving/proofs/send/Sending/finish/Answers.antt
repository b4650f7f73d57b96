use Rattle.std.proofs.Common.{ℕ, List, subst}
use Rattle.std.specs.Io.KnownBytes.{Appends}
use Rattle.zimgasol_saving.proofs.Streams.{sending_ends}
use Rattle.zimgasol_saving.proofs.send.Sending.finish.Goals as goal

pub returns : goal.returns
returns g c = λ front table text pages is. (
  c.in_ok-last.last.items,
  subst (λ (b : List ℕ). Appends (g.W.Write.contents c.args.out.now) (g.W.Write.contents c.write.new.out) b) c.deref.ensures.value c.in_ok-write.ensures,
  sending_ends front table text c.in_ok-last.last.items pages c.args.self is c.in_ok-last.ensures,
)
