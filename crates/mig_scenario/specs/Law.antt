-- A law on scenarios, whatever code executes them.
use Rattle.std.specs.Prelude.{ℕ, ◌≡◌, List, None, All}
use Rattle.mig_mem.specs.PageSize.{IsPageSize}
use Rattle.mig_mem.specs.Round.{IsRound, after}
use Rattle.mig_scenario.specs.Scenario.{lines_of, table_of, refusal}
use Rattle.mig_scenario.specs.Guest.{played, rounds_from}

-- The rounds of a scenario are rounds of its table. Applied to a memory of zeros they give the
-- memory that its guest has at the end.
pub record MakesItsImage (page_size : ℕ) (text : List ℕ) : Type 0 where
  pub are_rounds : All (IsRound (table_of page_size (lines_of text))) (rounds_from page_size (lines_of text))
  pub has_image : after (table_of page_size (lines_of text)) (rounds_from page_size (lines_of text)) ≡ (played (table_of page_size (lines_of text)) (lines_of text)).image

-- Each valid scenario makes its image.
abbrev pub ScenariosMakeTheirImage : Type 0
ScenariosMakeTheirImage = (page_size : ℕ) (text : List ℕ) → IsPageSize page_size → refusal page_size text ≡ None → MakesItsImage page_size text
