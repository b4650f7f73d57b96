use Rattle.zimgasol_page_packets.proofs.Lawful.{channels_stay}
use Rattle.zimgasol_page_packets.proofs.laws.channels_without_devices_stay.Goals as goal

pub returns : goal.returns
returns c = channels_stay
