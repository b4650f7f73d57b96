use Rattle.std.proofs.Common.{◌≡◌, ◌∙◌, Option, Some, None, refl, sym, ap, subst}
use Rattle.mig_mem.specs.RamTable.{RamTable}
use Rattle.mig_stream.specs.declared.wanted.Wanted.{Wanted}
use Rattle.mig_single_load.specs.ComesNext.{ComesNext, page_asked}
use Rattle.mig_c_loads.specs.NextBytes.{seen_next}
use Rattle.mig_c_loads.proofs.next_bytes.wanted.Goals as goal

pub returns-in-Some : goal.returns-in-Some
returns-in-Some c = record {
  next = Some c.in-Some.wanted;
  sees = (refl, c.seen_next.ensures ∙ ap (λ (t : RamTable). seen_next t.page_size c.in-Some.wanted) c.table.ensures);
  comes_next = λ memory given first text ended loads.
      subst (λ (o : Option Wanted). ComesNext given first text o) c.in-Some.is (c.wanted.ensures.loads memory given first text ended loads);
  has_failed = λ memory given first text ended lacks.
      let none : c.wanted.result ≡ None = c.wanted.ensures.lacking memory given first text ended lacks in absurd (let some = c.in-Some.is in cc);
  same_page = ap page_asked (sym c.in-Some.is) ∙ c.wanted.ensures.page;
  is_place = c.wanted.ensures.place;
}

pub returns-in-None : goal.returns-in-None
returns-in-None c = record {
  next = None;
  sees = (refl, refl);
  comes_next = λ memory given first text ended loads.
      subst (λ (o : Option Wanted). ComesNext given first text o) c.in-None.is (c.wanted.ensures.loads memory given first text ended loads);
  has_failed = λ _ _ _ _ _ _. refl;
  same_page = ap page_asked (sym c.in-None.is) ∙ c.wanted.ensures.page;
  is_place = c.wanted.ensures.place;
}
