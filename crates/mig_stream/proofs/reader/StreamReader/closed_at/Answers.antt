use Rattle.std.proofs.Common.{◌≡◌, ap, sym, subst, ◌∙◌}
use Rattle.mig_stream.specs.declared.item.StreamState.TheVariants as state
use Rattle.mig_stream.specs.Reader.{Reader, IsClosedAt}
use Rattle.mig_stream.proofs.Closing.{closed_stands, open_stands}
use Rattle.mig_stream.proofs.reader.StreamReader.closed_at.Goals as goal

pub returns-in-Closed : goal.returns-in-Closed
returns-in-Closed g c given so_far s =
    let found : c.args.self.now.found ≡ state.Closed = ap (λ (x : Reader). x.found) (sym c.self.view_is) ∙ c.in-Closed.is in
    subst (IsClosedAt given so_far.text) (ap (λ (x : Reader). x.valid_up_to) (sym c.self.view_is)) (closed_stands c.args.self.now found given so_far s)

pub returns-in_default : goal.returns-in_default
returns-in_default g c given so_far s =
    open_stands c.args.self.now (λ closed. c.in_default.not-Closed (ap (λ (x : Reader). x.found) c.self.view_is ∙ closed)) given so_far s
