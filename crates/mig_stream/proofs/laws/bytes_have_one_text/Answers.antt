use Rattle.mig_stream.proofs.SpelledText.{one_text_law}
use Rattle.mig_stream.proofs.laws.bytes_have_one_text.Goals as goal

pub returns : goal.returns
returns c = one_text_law
