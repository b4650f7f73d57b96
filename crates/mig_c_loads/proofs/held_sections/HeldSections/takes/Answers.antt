use Rattle.std.proofs.Common.{◌≡◌, ◌∙◌, sym, ap, subst}
use Rattle.mig_sections.specs.Sections.{SectionsLoad, LoadsSections}
use Rattle.mig_c_loads.specs.ZeroBlocks.{Into}
use Rattle.mig_c_loads.proofs.held_sections.HeldSections.takes.Goals as goal

pub returns : goal.returns
returns c = λ memory given first text ended known.
    let says = c.goes_on.ensures memory given first text ended
    (subst (λ (h : Into SectionsLoad). LoadsSections memory given first h.load text ended) (sym c.self.view_is) known) in (
      λ claim. (
        c.is_main.ensures.0 c.if-not-is_main.false,
        ap (λ (h : Into SectionsLoad). h.load.ended) (sym c.self.view_is) ∙ sym c.ended.ensures ∙ c.if-ended.false,
        says.0 claim,
      ),
      λ all. says.1 all.2,
    )
