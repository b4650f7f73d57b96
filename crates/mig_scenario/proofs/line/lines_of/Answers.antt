use Rattle.std.proofs.Common.{◌≡◌, ◌∙◌, ◌++◌, ◌∷◌, List, Option, Some, None, length, map, sym, ap, inr, arith, rules}
use Rattle.std.specs.Prelude.{vec_len}
use Rattle.std.specs.Option.{option_map}
use Rattle.std.proofs.lemmas.List.{length-map}
use Rattle.mig_scenario.specs.Line.{ScenarioLine, line_of}
use Rattle.mig_scenario.specs.Seen.{seen}
use Rattle.mig_scenario.proofs.Reading.{left_forms, forms_cut, syntax_of}
use Rattle.mig_scenario.proofs.line.lines_of.Goals as goal

pub returns-in_default-line_of-clause-err : goal.returns-in_default-line_of-clause-err
returns-in_default-line_of-clause-err g c =
    let read : List ScenarioLine = map seen c.lines.lines.items in
    let cut = forms_cut c.in-Some.left.now c.cut.result.0.now c.cut.result.1 c.cut.ensures in
    let none : line_of c.cut.result.0.now ≡ None = sym c.line_of.ensures ∙ ap (option_map seen) c.in_default-line_of.is in
    let left : left_forms c.lines.rest ≡ None ∷ left_forms c.cut.result.1 =
    ap left_forms c.in-Some.is ∙ (cut.0 ∙ ap (λ (o : Option ScenarioLine). o ∷ left_forms c.cut.result.1) none) in
    let whole = c.lines.invariant ∙ ap (λ (os : List (Option ScenarioLine)). map Some read ++ os) left in
    let len : vec_len c.lines.lines ≡ length c.lines.lines.items = search rules in
    let n : c.len.result ≡ length read = omega (arith, c.len.ensures, len, length-map c.lines.lines.items seen) in
    inr (syntax_of c.args.text.now read (left_forms c.cut.result.1) c.len.result whole n)
