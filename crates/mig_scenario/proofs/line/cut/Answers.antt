use Rattle.std.proofs.Common.{ℕ, ◌∙◌, Bool, eqb, sym, rules, tests}
use Rattle.std.proofs.lemmas.Iterator.{YieldsList-from_slice}
use Rattle.std.proofs.lemmas.Iterator.Search.{position_from_yields_List}
use Rattle.mig_scenario.proofs.Splitting.{split_found, split_missed}
use Rattle.mig_scenario.proofs.line.cut.Goals as goal

pub returns-in-Some : goal.returns-in-Some
returns-in-Some c =
    let p : ℕ → Bool = λ b. eqb b c.args.byte in
    let xs = c.args.bytes.now in
    let ran = c.position.ensures.ran in
    let at = position_from_yields_List p _ _ c.position.result ran (YieldsList-from_slice xs cc) (λ x b q k. search (rules, tests)) in
    split_found p xs c.in-Some.at 0 (sym at ∙ c.in-Some.is)

pub returns-in-None : goal.returns-in-None
returns-in-None c =
    let p : ℕ → Bool = λ b. eqb b c.args.byte in
    let xs = c.args.bytes.now in
    let ran = c.position.ensures.ran in
    let at = position_from_yields_List p _ _ c.position.result ran (YieldsList-from_slice xs cc) (λ x b q k. search (rules, tests)) in
    split_missed p xs 0 (sym at ∙ c.in-None.is)
