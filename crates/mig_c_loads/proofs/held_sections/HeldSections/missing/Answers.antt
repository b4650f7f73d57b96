use Rattle.std.proofs.Common.{subst, sym}
use Rattle.mig_sections.specs.Sections.{SectionsLoad, LoadsSections}
use Rattle.mig_c_loads.specs.ZeroBlocks.{Into}
use Rattle.mig_c_loads.proofs.held_sections.HeldSections.missing.Goals as goal

pub returns : goal.returns
returns c = λ memory given first text ended loads.
    c.missing.ensures memory given first text ended
    (subst (λ (h : Into SectionsLoad). LoadsSections memory given first h.load text ended) (sym c.self.view_is) loads)
