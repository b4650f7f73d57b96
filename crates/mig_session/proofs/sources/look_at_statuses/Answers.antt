use Rattle.std.proofs.Common.{arith, sym}
use Rattle.mig_session.specs.Scan.{TellsFirstStatus}
use Rattle.mig_sources.proofs.Zips.{zip_more}
use Rattle.mig_session.proofs.sources.look_at_statuses.Goals as goal

pub loop-channel-preserved : goal.loop-channel-preserved
loop-channel-preserved g c = record {
  told = rw c.push_reserved.ensures.items
      (zip_more TellsFirstStatus c.args.channels.now c.loop-channel.statuses.items c.loop-channel.channel-index
      c.channel-item.result c.first_status.result c.loop-channel-test.true (sym c.channel-item.is) c.loop-channel.invariant.told
      c.first_status.ensures);
  count = omega (arith, c.push_reserved.ensures.len, c.loop-channel.invariant.count);
  room = omega (arith, c.push_reserved.ensures.capacity, c.loop-channel.invariant.room);
}
