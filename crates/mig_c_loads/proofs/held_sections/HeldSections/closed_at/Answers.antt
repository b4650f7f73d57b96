use Rattle.std.proofs.Common.{◌≡◌, ℕ, Option, None, refl, sym, subst, arith}
use Rattle.mig_single_load.specs.LoadInPlace.{HasClosedAtOnto}
use Rattle.mig_sections.specs.Sections.{SectionsLoad, LoadsSections}
use Rattle.mig_c_loads.specs.ZeroBlocks.{Into}
use Rattle.mig_c_loads.proofs.held_sections.HeldSections.closed_at.Goals as goal

pub returns-in-Some : goal.returns-in-Some
returns-in-Some c = record {
  is_named = refl;
  closed = λ _ memory given first text ended loads.
      subst (λ (n : Option ℕ). HasClosedAtOnto given first text n) c.in-Some.is (c.closed_at.ensures memory given first text ended
      (subst (λ (h : Into SectionsLoad). LoadsSections memory given first h.load text ended) (sym c.self.view_is) loads));
  not_closed = grind arith;
  same = λ no_way. absurd (no_way refl);
}

pub returns-in-None : goal.returns-in-None
returns-in-None c = record {
  is_named = refl;
  closed = grind arith;
  not_closed = λ _ memory given first text ended loads.
      subst (λ (n : Option ℕ). HasClosedAtOnto given first text n) c.in-None.is (c.closed_at.ensures memory given first text ended
      (subst (λ (h : Into SectionsLoad). LoadsSections memory given first h.load text ended) (sym c.self.view_is) loads));
  same = λ _. refl;
}
