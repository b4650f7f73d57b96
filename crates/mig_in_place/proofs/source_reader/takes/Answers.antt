use Rattle.std.proofs.Common.{◌∙◌, sym, inl, inr}
use Rattle.std.proofs.lemmas.Bool.{false≢true}
use Rattle.mig_in_place.proofs.Turns.{running_or_not}
use Rattle.mig_in_place.proofs.source_reader.takes.Goals as goal

pub returns-then-not-ended-clause-none : goal.returns-then-not-ended-clause-none
returns-then-not-ended-clause-none g c = λ none memory. elim (running_or_not c.args.load.now.verdict) [
  | inr other ↦ inl other
  | inl running ↦ inr (inr (λ given uuid first texts stands takes. false≢true
      (sym none ∙ (c.is_taking.ensures.takes memory running given uuid first texts stands).1 takes)))
]
