use Rattle.std.proofs.Common.{ℕ, subst}
use Rattle.mig_stream.specs.Reading.{Settings}
use Rattle.mig_stream.specs.Reader.{HasClosedAt}
use Rattle.mig_answer.specs.Texts.{Text}
use Rattle.mig_in_place.specs.Sources.{KeptMain, StandsAt, so_far_of, rounds_come}
use Rattle.mig_in_place.proofs.main_stream.MainStream.closed_at.Goals as goal

pub returns : goal.returns
returns g c =
    subst (λ (m : KeptMain). (given : Settings) (k : ℕ) (text : Text) → StandsAt given k text m
    → HasClosedAt given text.bytes c.closed_at.result) c.self.view_is
    (λ given k text stands. c.closed_at.ensures given (so_far_of text (rounds_come k c.self.inside.is_whole)) stands)
