use Rattle.std.proofs.Common.{arith, sym}
use Rattle.mig_session.specs.Scan.{TellsHello}
use Rattle.mig_sources.proofs.Zips.{zip_more}
use Rattle.mig_session.proofs.sources.look_at_hellos.Goals as goal

pub loop-channel-preserved : goal.loop-channel-preserved
loop-channel-preserved g c = record {
  told = rw c.push_reserved.ensures.items
      (zip_more TellsHello c.args.channels.now c.loop-channel.hellos.items c.loop-channel.channel-index c.channel-item.result
      c.hello.result c.loop-channel-test.true (sym c.channel-item.is) c.loop-channel.invariant.told
      c.hello.ensures);
  count = omega (arith, c.push_reserved.ensures.len, c.loop-channel.invariant.count);
  room = omega (arith, c.push_reserved.ensures.capacity, c.loop-channel.invariant.room);
}
