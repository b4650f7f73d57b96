use Rattle.std.proofs.Common.{ℕ, subst}
use Rattle.mig_stream.specs.Reading.{Settings}
use Rattle.mig_stream.specs.Reader.{IsValidUpTo}
use Rattle.mig_answer.specs.Texts.{Text}
use Rattle.mig_in_place.specs.Sources.{KeptMain, StandsAt, so_far_of, rounds_come}
use Rattle.mig_in_place.proofs.main_stream.MainStream.valid_up_to.Goals as goal

pub returns : goal.returns
returns g c =
    subst (λ (m : KeptMain). (given : Settings) (k : ℕ) (text : Text) → StandsAt given k text m
    → IsValidUpTo given text.bytes c.valid_up_to.result) c.self.view_is
    (λ given k text stands. c.valid_up_to.ensures given (so_far_of text (rounds_come k c.self.inside.is_whole)) stands)
