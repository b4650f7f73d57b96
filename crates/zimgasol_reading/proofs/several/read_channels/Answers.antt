use Rattle.std.proofs.Common.{refl, ◌∙◌}
use Rattle.std.specs.Prelude.{slice_set}
use Rattle.std.proofs.lemmas.List.{length-set}
use Rattle.zimgasol_reading.specs.Left.{channels_left}
use Rattle.zimgasol_reading.proofs.Consuming.{takes_none, takes_both, of_channel}
use Rattle.zimgasol_reading.proofs.several.read_channels.Goals as goal

pub loop-i-init : goal.loop-i-init
loop-i-init g c = (λ main. takes_none (record { main = main; channels = channels_left g.F.Read.remaining c.args.channels.now }) c.args.load.now, refl)

pub loop-i-preserved : goal.loop-i-preserved
loop-i-preserved g c = (
  λ main. takes_both (record { main = main; channels = channels_left g.F.Read.remaining c.args.channels.now })
      (record { main = main; channels = channels_left g.F.Read.remaining c.loop-i.channels })
      (record { main = main; channels = channels_left g.F.Read.remaining (slice_set c.loop-i.channels c.loop-i.i c.read_round.new.self) })
      c.args.load.now c.loop-i.load c.read_round.new.load (c.loop-i.invariant.0 main)
      (of_channel g.F.Read.remaining main c.loop-i.channels c.loop-i.i _ c.read_round.new.self _ c.loop-i.load c.read_round.new.load
      c.in_ok-read_round.ensures refl),
  length-set c.loop-i.channels c.loop-i.i c.read_round.new.self ∙ c.loop-i.invariant.1,
)
