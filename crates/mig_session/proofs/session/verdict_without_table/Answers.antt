use Rattle.std.proofs.Common.{ℕ, Option, subst}
use Rattle.mig_answer.specs.declared.verdict.Verdict.{Verdict}
use Rattle.mig_session.specs.Sources.{TellsFirst}
use Rattle.mig_session.proofs.Advances.{first_told, never_due}
use Rattle.mig_session.proofs.session.verdict_without_table.Goals as goal

pub returns-clause-told : goal.returns-clause-told
returns-clause-told g c = λ f size holds none.
    first_told f c.args.sources.now c.in-Some.verdict size holds none
    (subst (λ (o : Option Verdict). TellsFirst c.args.sources.now o) c.in-Some.is c.first_verdict.ensures.told)

pub unreachable-requires : goal.unreachable-requires
unreachable-requires g c =
    never_due c.requires.0 c.args.sources.now c.requires.1 c.requires.2 c.requires.3
    (subst (λ (o : Option Verdict). TellsFirst c.args.sources.now o) c.in-None.is c.first_verdict.ensures.told)
