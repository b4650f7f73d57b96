use Rattle.std.proofs.Common.{refl}
use Rattle.mig_packet.specs.Reading.{settings, with_waiting}
use Rattle.mig_packet.proofs.Standing.{stands_first}
use Rattle.mig_packet.proofs.reader.ChannelReader.new_with.Goals as goal

pub returns-clause-stands : goal.returns-clause-stands
returns-clause-stands g c = stands_first
    (with_waiting c.args.waiting (settings c.args.page_size c.args.uuid c.args.channels)) _ c.new.ensures c.new-2.ensures.items refl refl refl refl
