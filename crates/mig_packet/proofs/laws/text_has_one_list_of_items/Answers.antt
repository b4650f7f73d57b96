use Rattle.mig_packet.proofs.Exists.{one_list_law}
use Rattle.mig_packet.proofs.laws.text_has_one_list_of_items.Goals as goal

pub returns : goal.returns
returns c = one_list_law
