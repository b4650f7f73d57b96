use Rattle.mig_packet.specs.Reader.{nothing_yet, with_piece}
use Rattle.mig_load_types.specs.Settings.{channel_of}
use Rattle.mig_relay.proofs.valid.channel_valid_up_to.Goals as goal

pub returns : goal.returns
returns g c =
    let given = channel_of c.args.settings c.args.uuid.now c.args.channels in
    c.valid_up_to.ensures given (with_piece c.args.text.now nothing_yet) (c.in-Ok.ensures.stands given nothing_yet c.new_with-reader.ensures.stands)
