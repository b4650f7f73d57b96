-- The numbers of a scenario's faults.
use Rattle.std.specs.Prelude.{ℕ}
use Rattle.mig_mem.specs.Refusal.{no_memory_number}
use Rattle.mig_scenario.specs.declared.fault.ScenarioFault.{ScenarioFault}
use Rattle.mig_scenario.specs.declared.fault.ScenarioFault.TheVariants as fault

abbrev pub scenario_number : ScenarioFault → ℕ
scenario_number (fault.Unsent line) = 80
scenario_number (fault.Syntax line) = 81
scenario_number (fault.Table t) = 82
scenario_number (fault.Range line) = 83
scenario_number (fault.Order line) = 84
scenario_number fault.NoMemory = no_memory_number
