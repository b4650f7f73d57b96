-- The lines that the tool keeps, as lines of a scenario.
use Rattle.std.specs.Prelude.{ℕ, List, [], Option, None, Some}
use Rattle.std.specs.Borrow.{Bor}
use Rattle.mig_scenario.specs.declared.line.Line.{Line}
use Rattle.mig_scenario.specs.declared.line.Line.TheVariants as kept
use Rattle.mig_scenario.specs.Line.{ScenarioLine, EmptyLine, BlockLine, StepLine, words}

abbrev pub seen : Line → ScenarioLine
seen kept.Empty = EmptyLine
seen (kept.Block pages id) = BlockLine pages id.now
seen (kept.Step step) = StepLine step

-- the words after a line's first word, if there are any
abbrev pub words_of : Option (Bor (List ℕ)) → List (List ℕ)
words_of None = []
words_of (Some fields) = words fields.now
