use Rattle.std.proofs.Common.{map}
use Rattle.mig_scenario.specs.Seen.{seen}
use Rattle.mig_scenario.proofs.Turns.{late_is}
use Rattle.mig_scenario.proofs.judging.late_block.Goals as goal

pub loop-i-init : goal.loop-i-init
loop-i-init c = late_is (map seen c.args.lines.now)
