use Rattle.mig_relay.proofs.Ends.{never_cut, made_item}
use Rattle.mig_relay.proofs.message.item_of.Goals as goal

pub unreachable-requires : goal.unreachable-requires
unreachable-requires c = never_cut _ _ _ _ _ _ c.in-Page.is c.requires.lies c.read_packet.ensures.found c.in-Cut.is

pub returns-in-Whole-clause-piece : goal.returns-in-Whole-clause-piece
returns-in-Whole-clause-piece c = made_item _ _ _ _ _ _ _ _ c.in-Page.is c.requires.lies c.read_packet.ensures.found c.in-Whole.is
