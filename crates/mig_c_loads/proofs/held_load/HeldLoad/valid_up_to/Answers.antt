use Rattle.std.proofs.Common.{◌≡◌, ℕ, Option, None, refl, sym, subst}
use Rattle.mig_single_load.specs.LoadInPlace.{LoadInPlace, LoadsInPlace, LacksMemory, IsValidUpToOnto}
use Rattle.mig_c_loads.specs.ZeroBlocks.{Into}
use Rattle.mig_c_loads.proofs.held_load.HeldLoad.valid_up_to.Goals as goal

pub returns-in-Some : goal.returns-in-Some
returns-in-Some c = record {
  loads = λ memory given first text ended loads.
      subst (λ (n : Option ℕ). IsValidUpToOnto given first text n) c.in-Some.is (c.valid_up_to.ensures.loads memory given first text ended
      (subst (λ (h : Into LoadInPlace). LoadsInPlace memory given first h.load text ended) (sym c.self.view_is) loads));
  has_failed = λ memory given first text ended lacks.
      let none : c.valid_up_to.result ≡ None = c.valid_up_to.ensures.lacking memory given first text ended
      (subst (λ (h : Into LoadInPlace). LacksMemory memory given first h.load text ended) (sym c.self.view_is) lacks) in
      absurd (let some = c.in-Some.is in cc);
  same = λ no. absurd cc;
}

pub returns-in-None : goal.returns-in-None
returns-in-None c = record {
  loads = λ memory given first text ended loads.
      subst (λ (n : Option ℕ). IsValidUpToOnto given first text n) c.in-None.is (c.valid_up_to.ensures.loads memory given first text ended
      (subst (λ (h : Into LoadInPlace). LoadsInPlace memory given first h.load text ended) (sym c.self.view_is) loads));
  has_failed = λ _ _ _ _ _ _. refl;
  same = λ _. refl;
}
