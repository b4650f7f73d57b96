use Rattle.std.proofs.Common.{refl, ◌∙◌}
use Rattle.std.proofs.Math.Seq.{map-set_same}
use Rattle.std.proofs.lemmas.List.{length-set}
use Rattle.zimgasol_reading.proofs.several.advance_lanes.Goals as goal

pub loop-i-preserved : goal.loop-i-preserved
loop-i-preserved g c = (
  length-set c.loop-i.channels c.loop-i.i _ ∙ c.loop-i.invariant.0,
  map-set_same (λ x. x.inlet) c.loop-i.channels c.loop-i.i _ c.index-channels-i.result refl ∙ c.loop-i.invariant.1,
)
