use Rattle.zimgasol_page_packets.proofs.Lawful.{packets_stay, others_stay, cuts_stay}
use Rattle.zimgasol_page_packets.proofs.laws.bytes_without_devices_are_passed_on.Goals as goal

pub returns-clause-packets : goal.returns-clause-packets
returns-clause-packets c = packets_stay

pub returns-clause-others : goal.returns-clause-others
returns-clause-others c = others_stay

pub returns-clause-cut : goal.returns-clause-cut
returns-clause-cut c = cuts_stay
