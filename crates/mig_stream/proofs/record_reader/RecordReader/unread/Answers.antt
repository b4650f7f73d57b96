use Rattle.std.proofs.Common.{◌≡◌, ◌++◌, List, [], ℕ, Option, Some, ap, sym, refl, subst, ◌∙◌}
use Rattle.mig_stream.specs.declared.item.StreamState.{StreamState}
use Rattle.mig_stream.specs.declared.item.StreamState.TheVariants.{Closed}
use Rattle.mig_stream.specs.Kept.{bytes_of}
use Rattle.mig_stream.specs.Giving.{Giver, IsBehind, IsUnread}
use Rattle.mig_stream.proofs.Closing.{behind_stands}
use Rattle.mig_stream.proofs.record_reader.RecordReader.unread.Goals as goal

pub returns-clause-behind : goal.returns-clause-behind
returns-clause-behind g c given text so_far h =
    let closed : c.args.self.now.found ≡ Some Closed = c.if-not-is_closed.ensures.closed refl in
    let none : c.self.inside.pending.items ≡ [] =
    subst (λ (o : Option StreamState). IsUnread o c.self.inside.progress c.self.inside.pending.items
    (bytes_of c.self.inside.rest)) (ap (λ (x : Giver). x.found) c.self.view_is ∙ closed) c.self.invariant in
    let rest : c.args.self.now.rest ≡ c.into_bytes.result.now =
    ap (λ (x : Giver). x.rest) (sym c.self.view_is) ∙ ap (λ (x : List ℕ). x ++ bytes_of c.self.inside.rest) none ∙ sym c.into_bytes.ensures in
    subst (IsBehind given text) rest (behind_stands c.args.self.now closed given text so_far h)
