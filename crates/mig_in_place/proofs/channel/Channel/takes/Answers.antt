use Rattle.std.proofs.Common.{◌∙◌, sym}
use Rattle.mig_in_place.proofs.Channels.{held_takes, free_takes}
use Rattle.mig_in_place.proofs.channel.Channel.takes.Goals as goal

pub returns-then-is_held_back-clause-tells : goal.returns-then-is_held_back-clause-tells
returns-then-is_held_back-clause-tells g c =
    let held = c.is_held_back.ensures in
    held_takes c.args.list c.args.self.now held.0 held.1 (sym held.2 ∙ c.if-is_held_back.true)

pub returns-clause-tells : goal.returns-clause-tells
returns-clause-tells g c =
    let held = c.is_held_back.ensures in
    free_takes c.args.list c.args.self.now held.0 c.status.result c.is_pending.result held.1 c.status.ensures.tells
    (sym held.2 ∙ c.if-is_held_back.false) c.is_pending.ensures
