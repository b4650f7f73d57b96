-- A scenario that isn't refused makes its image.
use Rattle.std.proofs.Common.{List, [], ◌∷◌, Option, None}
use Rattle.std.specs.Prelude.{not, is_none, All, IsTrue}
use Rattle.std.specs.Option.{option_map}
use Rattle.mig_mem.specs.First.{first_some}
use Rattle.mig_mem.specs.RamTable.{IsTable}
use Rattle.mig_mem.specs.Refusal.{refusal as table_refusal}
use Rattle.mig_mem.proofs.Lawful.{table_law}
use Rattle.mig_mem.proofs.Lists.{or_none, map_none}
use Rattle.mig_scenario.specs.declared.fault.ScenarioFault.{ScenarioFault}
use Rattle.mig_scenario.specs.declared.fault.ScenarioFault.TheVariants as fault
use Rattle.mig_scenario.specs.Line.{ScenarioLine}
use Rattle.mig_scenario.specs.Scenario.{forms, lines_of, table_of, first_line, late_block, unsent, is_within}
use Rattle.mig_scenario.specs.Law.{ScenariosMakeTheirImage}
use Rattle.mig_scenario.proofs.Verdicts.{all_within}
use Rattle.mig_scenario.proofs.Faithful.{played_is_sent, played_are_rounds}

-- the rounds of a valid scenario, applied to zeros, give the memory its guest has at the end
pub made : ScenariosMakeTheirImage
made size text is_size none =
    let ls : List ScenarioLine = lines_of text in
    let syntax : Option ScenarioFault = option_map fault.Syntax (first_line is_none (forms text)) in
    let order : Option ScenarioFault = option_map fault.Order (late_block ls) in
    let table : Option ScenarioFault = option_map fault.Table (table_refusal (table_of size ls)) in
    let range : Option ScenarioFault = option_map fault.Range (first_line (λ l. not (is_within (table_of size ls) l)) ls) in
    let last : Option ScenarioFault = option_map fault.Unsent (unsent ls) in
    let a = or_none syntax (first_some (order ∷ (table ∷ (range ∷ (last ∷ []))))) none in
    let b = or_none order (first_some (table ∷ (range ∷ (last ∷ [])))) a.1 in
    let c = or_none table (first_some (range ∷ (last ∷ []))) b.1 in
    let d = or_none range (first_some (last ∷ [])) c.1 in
    let e = or_none last None d.1 in
    let is : IsTable (table_of size ls) = (table_law (table_of size ls) is_size).0 (map_none fault.Table (table_refusal (table_of size ls)) c.0) in
    let within : All (λ l. IsTrue (is_within (table_of size ls) l)) ls =
    all_within (is_within (table_of size ls)) ls (map_none fault.Range (first_line (λ l. not (is_within (table_of size ls) l)) ls) d.0) in
    record {
      are_rounds = played_are_rounds (table_of size ls) ls is within;
      has_image = played_is_sent (table_of size ls) ls is within (map_none fault.Unsent (unsent ls) e.0);
    }
