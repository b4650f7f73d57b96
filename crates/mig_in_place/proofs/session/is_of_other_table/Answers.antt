use Rattle.std.proofs.Common.{Some, subst, inl, inr}
use Rattle.std.proofs.lemmas.Bool.{not-false, not-true}
use Rattle.mig_mem.specs.RamTable.{RamTable}
use Rattle.mig_stream.specs.Reader.{HasTable}
use Rattle.mig_in_place.proofs.session.is_of_other_table.Goals as goal

pub returns-in-Some-clause-other : goal.returns-in-Some-clause-other
returns-in-Some-clause-other g c = λ differs given k text stands. (
  c.in-Some.found.now,
  c.in-Some.ensures given k text stands,
  λ same. absurd (let t = c.same.ensures.1 same in let f = not-true c.same.result differs in cc),
)

pub returns-in-Some-clause-own : goal.returns-in-Some-clause-own
returns-in-Some-clause-own g c = λ equal given k text stands.
    inr (subst (λ (t : RamTable). HasTable given text.bytes (Some t)) (c.same.ensures.0 (not-false c.same.result equal))
    (c.in-Some.ensures given k text stands))

pub returns-in-None-clause-own : goal.returns-in-None-clause-own
returns-in-None-clause-own g c = λ _ given k text stands. inl (c.in-None.ensures given k text stands)
