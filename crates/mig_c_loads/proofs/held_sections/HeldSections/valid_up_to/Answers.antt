use Rattle.std.proofs.Common.{◌≡◌, ℕ, Option, None, refl, sym, subst, arith}
use Rattle.mig_single_load.specs.LoadInPlace.{IsValidUpToOnto}
use Rattle.mig_sections.specs.Sections.{SectionsLoad, LoadsSections}
use Rattle.mig_c_loads.specs.ZeroBlocks.{Into}
use Rattle.mig_c_loads.proofs.held_sections.HeldSections.valid_up_to.Goals as goal

pub returns-in-Some : goal.returns-in-Some
returns-in-Some c = record {
  stands = λ _ memory given first text ended loads.
      subst (λ (n : Option ℕ). IsValidUpToOnto given first text n) c.in-Some.is (c.valid_up_to.ensures memory given first text ended
      (subst (λ (h : Into SectionsLoad). LoadsSections memory given first h.load text ended) (sym c.self.view_is) loads));
  same = λ claim. absurd (let e = claim in cc);
  foreign = λ other. absurd (other (c.is_main.ensures.0 c.if-not-is_main.false));
}

pub returns-in-None : goal.returns-in-None
returns-in-None c = record {
  stands = λ _ memory given first text ended loads.
      subst (λ (n : Option ℕ). IsValidUpToOnto given first text n) c.in-None.is (c.valid_up_to.ensures memory given first text ended
      (subst (λ (h : Into SectionsLoad). LoadsSections memory given first h.load text ended) (sym c.self.view_is) loads));
  same = λ _. refl;
  foreign = λ _. refl;
}
