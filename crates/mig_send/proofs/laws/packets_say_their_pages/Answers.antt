use Rattle.mig_send.proofs.ReadBack.{say_their_pages}
use Rattle.mig_send.proofs.laws.packets_say_their_pages.Goals as goal

pub returns : goal.returns
returns c = say_their_pages
