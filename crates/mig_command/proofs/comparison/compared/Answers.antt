use Rattle.std.proofs.Common.{◌∙◌, sym, ap}
use Rattle.mig_mem.specs.PlaceSet.{PlaceSet}
use Rattle.mig_command.specs.Answer.{comparison_of}
use Rattle.mig_command.proofs.Checking.{compared_same, compared_differs}
use Rattle.mig_command.proofs.comparison.compared.Goals as goal

pub returns-in-None : goal.returns-in-None
returns-in-None g c =
    compared_same c.in_ok-found.found.marked (sym c.first_from.ensures ∙ c.in-None.is)
    ∙ ap (λ (s : PlaceSet). comparison_of s.marked) c.in_ok-found.ensures.value

pub returns : goal.returns
returns g c =
    compared_differs c.in_ok-found.found.marked c.in-Some.first c.count.result (sym c.first_from.ensures ∙ c.in-Some.is) c.count.ensures.value
    ∙ ap (λ (s : PlaceSet). comparison_of s.marked) c.in_ok-found.ensures.value
