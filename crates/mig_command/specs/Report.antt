-- The tool's reports: the output that it writes, and its exit status.
use Rattle.std.specs.Prelude.{◌≡◌, ◌⊎◌, ℕ, ◌+◌, List, [], ◌++◌, length, codes, decimal}
use Rattle.mig_mem.specs.Refusal.{no_memory_number, fault_number as table_fault_number}
use Rattle.mig_mem.specs.RamTable.{RamTable}
use Rattle.mig_mem.specs.Image.{Page}
use Rattle.mig_stream.specs.Written.{single}
use Rattle.mig_scenario.specs.FaultNumber.{scenario_number}
use Rattle.mig_scenario.specs.declared.fault.ScenarioFault.{ScenarioFault}
use Rattle.mig_scenario.specs.declared.fault.ScenarioFault.TheVariants as fault

pub record Report : Type 0 where
  pub text : List ℕ
  pub status : ℕ

-- `fault N`, and details about it
abbrev pub fault_line : ℕ → List ℕ → List ℕ
fault_line number more = codes "fault " ++ decimal number ++ more ++ codes "\n"

abbrev pub at_line : ℕ → List ℕ
at_line line = codes " line " ++ decimal line

-- the place of a scenario's fault
abbrev pub scenario_place : ScenarioFault → List ℕ
scenario_place (fault.Unsent line) = at_line line
scenario_place (fault.Syntax line) = at_line line
scenario_place (fault.Table t) = codes " table " ++ decimal (table_fault_number t)
scenario_place (fault.Range line) = at_line line
scenario_place (fault.Order line) = at_line line
scenario_place fault.NoMemory = []

abbrev pub refused : ScenarioFault → List ℕ
refused f = fault_line (scenario_number f) (scenario_place f)

-- the length of a single stream and the number of its sections; then `same`: the loaded memory is
-- the one that was sent
abbrev pub single_line : ℕ → ℕ → List ℕ
single_line len sections = codes "single " ++ decimal len ++ codes " sections " ++ decimal sections ++ codes "\n"

abbrev pub same_line : List ℕ
same_line = codes "same\n"

-- the lines of a check of some rounds: the line on their single stream, the line on channels, and
-- `same`
abbrev pub checked : RamTable → List (List Page) → List ℕ → List ℕ
checked table rounds on_channels = single_line (length (single table rounds)) (length rounds + 2) ++ on_channels ++ same_line

-- the reports of a refused allocation: outside of a load, or in a load after a number of rounds
abbrev pub IsWantOfMemory : Report → Type 0
IsWantOfMemory r = (r.status ≡ 1) × ((r.text ≡ fault_line no_memory_number [])
    ⊎ ((rounds : ℕ) × (r.text ≡ fault_line no_memory_number (codes " round " ++ decimal rounds ++ codes " in round"))))
