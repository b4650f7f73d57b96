use Rattle.std.proofs.Common.{arith}
use Rattle.mig_scenario.proofs.Forms.{step_of_third}
use Rattle.mig_scenario.proofs.line.step_with.Goals as goal

pub returns-in_err-third : goal.returns-in_err-third
returns-in_err-third c =
    let a = c.args in
    grind (arith, step_of_third a.name.now a.block a.second a.third c.in-Some.third _ c.in-Some.is c.number.ensures)

pub returns-then-eq-2 : goal.returns-then-eq-2
returns-then-eq-2 c =
    let a = c.args in
    grind (arith, step_of_third a.name.now a.block a.second a.third c.in-Some.third _ c.in-Some.is c.number.ensures)

pub returns-then-eq-3 : goal.returns-then-eq-3
returns-then-eq-3 c =
    let a = c.args in
    grind (arith, step_of_third a.name.now a.block a.second a.third c.in-Some.third _ c.in-Some.is c.number.ensures)

pub returns-else-eq-3 : goal.returns-else-eq-3
returns-else-eq-3 c =
    let a = c.args in
    grind (arith, step_of_third a.name.now a.block a.second a.third c.in-Some.third _ c.in-Some.is c.number.ensures)
