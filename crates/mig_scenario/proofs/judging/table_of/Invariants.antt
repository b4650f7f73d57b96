use Rattle.std.proofs.Common.{◌≡◌, map, take}
use Rattle.mig_mem.specs.RamTable.{entry_block}
use Rattle.mig_scenario.specs.Scenario.{blocks_of}
use Rattle.mig_scenario.specs.Seen.{seen}
use Rattle.mig_scenario.proofs.judging.table_of.Given as goal

abbrev pub invariant-loop-line : goal.invariant-loop-line
invariant-loop-line g l = map entry_block l.blocks.items ≡ blocks_of (map seen (take l.line-index l.lines))
