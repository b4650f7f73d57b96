use Rattle.std.proofs.Common.{map}
use Rattle.mig_scenario.specs.Seen.{seen}
use Rattle.mig_scenario.proofs.Turns.{unsent_is}
use Rattle.mig_scenario.proofs.judging.unsent.Goals as goal

pub loop-i-init : goal.loop-i-init
loop-i-init c = unsent_is (map seen c.args.lines.now)
