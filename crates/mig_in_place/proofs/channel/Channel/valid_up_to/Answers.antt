use Rattle.std.proofs.Common.{subst}
use Rattle.mig_packet.specs.Reading.{Settings}
use Rattle.mig_packet.specs.Reader.{IsValidUpTo}
use Rattle.mig_answer.specs.Texts.{Text}
use Rattle.mig_in_place.specs.Sources.{KeptChannel, HasGiven}
use Rattle.mig_in_place.proofs.channel.Channel.valid_up_to.Goals as goal

pub returns : goal.returns
returns g c =
    subst (λ (m : KeptChannel). (given : Settings) (text : Text) → HasGiven given text m → IsValidUpTo given text.bytes c.valid_up_to.result) c.self.view_is
    (λ given text has. c.valid_up_to.ensures given text.bytes has.0 has.1)
