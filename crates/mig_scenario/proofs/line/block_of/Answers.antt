use Rattle.std.proofs.Common.{ℕ, ◌∙◌, List, ◌∷◌, Option, sym, ap}
use Rattle.std.specs.Borrow.{Bor}
use Rattle.std.specs.Option.{option_map}
use Rattle.mig_scenario.specs.Line.{BlockLine, words, block_of as block_said}
use Rattle.mig_scenario.specs.Seen.{words_of}
use Rattle.mig_scenario.proofs.Forms.{words_cut, block_of_words}
use Rattle.mig_scenario.proofs.line.block_of.Goals as goal

pub returns : goal.returns
returns c =
    let pages = c.cut.result.0.now in
    let id = c.in_ok-id.field-0.now in
    let cut = words_cut c.in_ok-fields.field-0.now pages c.cut.result.1 c.cut.ensures in
    let all = cut ∙ ap (λ (o : Option (Bor (List ℕ))). pages ∷ words_of o) c.in_ok-id.was in
    let said = block_of_words pages id (words c.in_ok-fields.field-0.now) all in
    let fields = ap (λ (o : Option (Bor (List ℕ))). block_said (words_of o)) c.in_ok-fields.was in
    sym (fields ∙ (said ∙ ap (option_map (λ n. BlockLine n id)) (sym c.number.ensures ∙ c.in_ok-number.was)))
