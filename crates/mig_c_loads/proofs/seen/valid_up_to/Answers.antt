use Rattle.std.proofs.Common.{◌≡◌, ℕ, Option, None, refl, subst}
use Rattle.mig_load_types.specs.Settings.{for_table}
use Rattle.mig_sources.specs.Faults.{IsSourceValidUpTo}
use Rattle.mig_c_loads.proofs.seen.valid_up_to.Goals as goal

pub returns-in-Some : goal.returns-in-Some
returns-in-Some c = record {
  stands = λ _ memory given uuid first texts stands.
      subst (λ (n : Option ℕ). IsSourceValidUpTo (for_table first.table given) uuid texts c.args.source n) c.in-Some.is
      (c.valid_up_to.ensures.stands memory given uuid first texts stands);
  lacking = λ memory given uuid first texts lacks.
      let none : c.valid_up_to.result ≡ None = c.valid_up_to.ensures.lacking memory given uuid first texts lacks in absurd (let some = c.in-Some.is in cc);
  foreign = λ foreign. absurd (foreign (c.if-not-has.ensures.0 refl));
  same = λ no. absurd cc;
}

pub returns-in-None : goal.returns-in-None
returns-in-None c = record {
  stands = λ _ memory given uuid first texts stands.
      subst (λ (n : Option ℕ). IsSourceValidUpTo (for_table first.table given) uuid texts c.args.source n) c.in-None.is
      (c.valid_up_to.ensures.stands memory given uuid first texts stands);
  lacking = λ _ _ _ _ _ _. refl;
  foreign = λ _. refl;
  same = λ _. refl;
}
