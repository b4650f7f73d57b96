use Rattle.std.proofs.Common.{ℕ, List, refl, subst}
use Rattle.std.specs.Io.KnownBytes.{Appends}
use Rattle.zimgasol_saving.proofs.Streams.{begun_named}
use Rattle.zimgasol_saving.proofs.send.begin_named.Goals as goal

pub returns : goal.returns
returns g c = (
  c.in_ok-first.first.items,
  subst (λ (b : List ℕ). Appends (g.W.Write.contents c.args.out.now) (g.W.Write.contents c.write.new.out) b) c.deref.ensures.value c.in_ok-write.ensures,
  begun_named c.args.name.now c.in_ok-first.first.items c.args.table.now _ c.in_ok-first.ensures.first c.in_ok-first.ensures.table refl
      c.in_ok-first.ensures.none,
)
