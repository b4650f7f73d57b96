use Rattle.std.proofs.Common.{arith, sym}
use Rattle.mig_sources.proofs.Zips.{zip_more}
use Rattle.mig_in_place.specs.Sources.{TellsChannelStatus}
use Rattle.mig_in_place.proofs.session.look_at_statuses.Goals as goal

pub loop-channel-preserved : goal.loop-channel-preserved
loop-channel-preserved g c = record {
  told = rw c.push_reserved.ensures.items
      (zip_more TellsChannelStatus c.args.channels.now c.loop-channel.statuses.items c.loop-channel.channel-index
      c.channel-item.result c.status.result c.loop-channel-test.true (sym c.channel-item.is) c.loop-channel.invariant.told
      c.status.ensures.tells);
  count = omega (arith, c.push_reserved.ensures.len, c.loop-channel.invariant.count);
  room = omega (arith, c.push_reserved.ensures.capacity, c.loop-channel.invariant.room);
}
