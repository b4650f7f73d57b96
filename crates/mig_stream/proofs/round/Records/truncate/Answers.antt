use Rattle.std.proofs.Common.{[], sym, ap, subst, take, ◌∙◌}
use Rattle.mig_stream.specs.Kept.{records_after, AreHeldAfter}
use Rattle.mig_stream.proofs.Keeping.{records_take, held_take}
use Rattle.mig_stream.proofs.round.Records.truncate.Goals as goal

pub invariant_of-self : goal.invariant_of-self
invariant_of-self g c = subst (λ l. AreHeldAfter [] l) (sym c.truncate.ensures.items) (held_take [] c.self.inside.items.items c.args.n c.self.invariant)

pub returns : goal.returns
returns g c =
    ap (λ l. records_after [] l) c.truncate.ensures.items ∙ records_take [] c.self.inside.items.items c.args.n ∙ ap (take c.args.n) c.self.view_is
