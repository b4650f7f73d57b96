use Rattle.std.proofs.Common.{◌≡◌, ℕ, Option, None, refl, sym, subst, arith}
use Rattle.mig_single_load.specs.LoadInPlace.{LoadInPlace, LoadsInPlace, LacksMemory, HasClosedAtOnto}
use Rattle.mig_c_loads.specs.ZeroBlocks.{Into}
use Rattle.mig_c_loads.proofs.held_load.HeldLoad.closed_at.Goals as goal

pub returns-in-Some : goal.returns-in-Some
returns-in-Some c = record {
  is_named = refl;
  closed = λ _ memory given first text ended loads.
      subst (λ (n : Option ℕ). HasClosedAtOnto given first text n) c.in-Some.is (c.closed_at.ensures.loads memory given first text ended
      (subst (λ (h : Into LoadInPlace). LoadsInPlace memory given first h.load text ended) (sym c.self.view_is) loads));
  not_closed = grind arith;
  has_failed = λ memory given first text ended lacks.
      let none : c.closed_at.result ≡ None = c.closed_at.ensures.lacking memory given first text ended
      (subst (λ (h : Into LoadInPlace). LacksMemory memory given first h.load text ended) (sym c.self.view_is) lacks) in
      absurd (let some = c.in-Some.is in cc);
  same = λ no. absurd (no refl);
}

pub returns-in-None : goal.returns-in-None
returns-in-None c = record {
  is_named = refl;
  closed = grind arith;
  not_closed = λ _ memory given first text ended loads.
      subst (λ (n : Option ℕ). HasClosedAtOnto given first text n) c.in-None.is (c.closed_at.ensures.loads memory given first text ended
      (subst (λ (h : Into LoadInPlace). LoadsInPlace memory given first h.load text ended) (sym c.self.view_is) loads));
  has_failed = λ _ _ _ _ _ _. refl;
  same = λ _. refl;
}
