use Rattle.std.proofs.Common.{subst, sym}
use Rattle.mig_single_load.specs.LoadInPlace.{LoadInPlace, LoadsInPlace}
use Rattle.mig_c_loads.specs.ZeroBlocks.{Into}
use Rattle.mig_c_loads.proofs.held_load.HeldLoad.missing.Goals as goal

pub returns : goal.returns
returns c = λ memory given first text ended loads.
    c.missing.ensures memory given first text ended
    (subst (λ (h : Into LoadInPlace). LoadsInPlace memory given first h.load text ended) (sym c.self.view_is) loads)
