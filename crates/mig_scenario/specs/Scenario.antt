-- The faults for which an input is refused as a scenario.
use Rattle.std.specs.Prelude.{ℕ, suc, ◌+◌, ◌-◌, ◌*◌, ◌&&◌, nat_lt, not, List, [], ◌∷◌, length, map, drop, position, Bool, true, false, Option, None, Some, is_none}
use Rattle.std.specs.List.{after_last}
use Rattle.std.specs.Option.{option_map, option_and_then}
use Rattle.mig_mem.specs.First.{first_some}
use Rattle.mig_mem.specs.RamTable.{Block, RamTable, block}
use Rattle.mig_mem.specs.Refusal.{refusal as table_refusal}
use Rattle.mig_scenario.specs.declared.line.Step.{Step}
use Rattle.mig_scenario.specs.declared.line.Step.TheVariants.{Set, Fill, Touch, Round}
use Rattle.mig_scenario.specs.declared.fault.ScenarioFault.{ScenarioFault}
use Rattle.mig_scenario.specs.declared.fault.ScenarioFault.TheVariants as fault
use Rattle.mig_scenario.specs.Line.{ScenarioLine, EmptyLine, BlockLine, StepLine, lines, line_of}

-- the lines that have one of the forms
abbrev pub known : List (Option ScenarioLine) → List ScenarioLine
known [] = []
known (None ∷ rest) = known rest
known (Some line ∷ rest) = line ∷ known rest

-- the parsed lines of an input
abbrev pub forms : List ℕ → List (Option ScenarioLine)
forms text = map line_of (lines text)

abbrev pub lines_of : List ℕ → List ScenarioLine
lines_of text = known (forms text)

abbrev pub is_block : ScenarioLine → Bool
is_block (BlockLine pages id) = true
is_block other = false

abbrev pub is_step : ScenarioLine → Bool
is_step (StepLine step) = true
is_step other = false

abbrev pub is_round : ScenarioLine → Bool
is_round (StepLine Round) = true
is_round other = false

-- the blocks of some lines, in their order
abbrev pub blocks_of : List ScenarioLine → List Block
blocks_of [] = []
blocks_of (BlockLine pages id ∷ rest) = record { id = id; pages = pages } ∷ blocks_of rest
blocks_of (EmptyLine ∷ rest) = blocks_of rest
blocks_of (StepLine step ∷ rest) = blocks_of rest

-- the table of the lines' blocks, with pages of this size
abbrev pub table_of : ℕ → List ScenarioLine → RamTable
table_of page_size ls = record { page_size = page_size; blocks = blocks_of ls }

-- ---- faults, by the number of a line; lines count from 1

-- the first line that passes a test
abbrev pub first_line : {A : Type 0} → (A → Bool) → List A → Option ℕ
first_line test ls = option_map suc (position test ls)

-- the first block after the first step
abbrev pub late_block : List ScenarioLine → Option ℕ
late_block ls = option_and_then (λ i. option_map (λ j. i + suc j) (position is_block (drop i ls))) (position is_step ls)

-- a step is within the table, and writes a byte
abbrev pub is_step_within : RamTable → Step → Bool
is_step_within table (Set b offset byte) =
    nat_lt b (length table.blocks) && nat_lt offset ((block table.blocks b).pages * table.page_size) && nat_lt byte 256
is_step_within table (Fill b page byte) = nat_lt b (length table.blocks) && nat_lt page (block table.blocks b).pages && nat_lt byte 256
is_step_within table (Touch b page) = nat_lt b (length table.blocks) && nat_lt page (block table.blocks b).pages
is_step_within table Round = true

abbrev pub is_within : RamTable → ScenarioLine → Bool
is_within table (StepLine step) = is_step_within table step
is_within table other = true

-- the first step after the last round, or the first step if there is no round
abbrev pub unsent : List ScenarioLine → Option ℕ
unsent ls = let rest = after_last is_round ls in option_map (λ i. length ls - length rest + suc i) (position is_step rest)

-- Why an input isn't a scenario with pages of this size: the first fault that applies.
abbrev pub refusal : ℕ → List ℕ → Option ScenarioFault
refusal page_size text = let ls = lines_of text in first_some (
    option_map fault.Syntax (first_line is_none (forms text))
    ∷ (option_map fault.Order (late_block ls)
    ∷ (option_map fault.Table (table_refusal (table_of page_size ls))
    ∷ (option_map fault.Range (first_line (λ l. not (is_within (table_of page_size ls) l)) ls)
    ∷ (option_map fault.Unsent (unsent ls)
    ∷ [])))))
