use Rattle.std.proofs.Common.{[], length, arith, ap, ◌∙◌}
use Rattle.mig_stream.specs.Kept.{records_after}
use Rattle.mig_stream.specs.Round.{record_at}
use Rattle.mig_stream.proofs.Keeping.{records_length}
use Rattle.mig_stream.proofs.round.Records.content.Goals as goal

pub content_at-requires-clause-there : goal.content_at-requires-clause-there
content_at-requires-clause-there g c =
    omega (arith, c.requires, ap (λ l. length l) c.deref.ensures.value, ap (λ l. length l) c.self.view_is, records_length [] c.self.inside.items.items)

pub returns : goal.returns
returns g c =
    c.content_at.ensures ∙ ap (λ l. (record_at (records_after [] l) c.args.i).content) c.deref.ensures.value
    ∙ ap (λ l. (record_at l c.args.i).content) c.self.view_is
