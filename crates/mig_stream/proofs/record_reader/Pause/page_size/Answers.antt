use Rattle.std.proofs.Common.{ap, ◌∙◌}
use Rattle.mig_stream.specs.Giving.{Paused, giver_at}
use Rattle.mig_stream.proofs.Giver.{same_page_size}
use Rattle.mig_stream.proofs.record_reader.Pause.page_size.Goals as goal

pub returns-clause-given : goal.returns-clause-given
returns-clause-given g c given text so_far at =
    c.page_size.ensures.value ∙ ap (λ p. p.progress.page_size) c.self-inside.view_is ∙ ap (λ (p : Paused). p.progress.page_size) c.self.view_is
    ∙ same_page_size given text so_far (giver_at c.args.self.now) at
