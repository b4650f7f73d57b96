use Rattle.std.proofs.Common.{◌∙◌, Bool, ap, sym, subst}
use Rattle.mig_sections.specs.Sections.{SectionsLoad, LoadsSections}
use Rattle.mig_c_loads.specs.ZeroBlocks.{Into}
use Rattle.mig_c_loads.specs.Found.{seen_so_far}
use Rattle.mig_c_loads.proofs.held_sections.HeldSections.verdict.Goals as goal

pub returns : goal.returns
returns c = λ memory given first text ended is.
    let here : LoadsSections memory given first c.self.inside.state text ended =
    subst (λ (h : Into SectionsLoad). LoadsSections memory given first h.load text ended) (sym c.self.view_is) is in (
      c.verdict.result,
      c.verdict.ensures memory given first text ended here,
      c.of_verdict.ensures ∙ ap (λ (over : Bool). seen_so_far over c.verdict.result) (c.ended.ensures ∙ here.has_ended),
    )
