use Rattle.std.proofs.Common.{◌≡◌, ℕ, Option, None, refl, subst, arith}
use Rattle.mig_stream.specs.Reader.{HasClosedAt}
use Rattle.mig_load_types.specs.Settings.{for_table, main_of}
use Rattle.mig_c_loads.proofs.seen.closed_at.Goals as goal

pub returns-in-Some : goal.returns-in-Some
returns-in-Some c = record {
  is_named = refl;
  closed = λ _ memory given uuid first texts stands.
      subst (λ (n : Option ℕ). HasClosedAt (main_of (for_table first.table given)) texts.main.bytes n) c.in-Some.is
      (c.closed_at.ensures.stands memory given uuid first texts stands);
  not_closed = grind arith;
  lacking = λ memory given uuid first texts lacks.
      let none : c.closed_at.result ≡ None = c.closed_at.ensures.lacking memory given uuid first texts lacks in absurd (let some = c.in-Some.is in cc);
  same = λ no. absurd (no refl);
}

pub returns-in-None : goal.returns-in-None
returns-in-None c = record {
  is_named = refl;
  closed = grind arith;
  not_closed = λ _ memory given uuid first texts stands.
      subst (λ (n : Option ℕ). HasClosedAt (main_of (for_table first.table given)) texts.main.bytes n) c.in-None.is
      (c.closed_at.ensures.stands memory given uuid first texts stands);
  lacking = λ _ _ _ _ _ _. refl;
  same = λ _. refl;
}
