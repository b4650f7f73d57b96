use Rattle.std.proofs.Common.{subst, sym}
use Rattle.mig_single_load.specs.Loader.{Loader, Loads, Judges}
use Rattle.mig_single_load.proofs.loader.SingleLoader.verdict.Goals as goal

pub returns : goal.returns
returns g c = λ given text ended loads.
    subst (λ (l : Loader). Judges given l text c.verdict.result) c.self.view_is
    (c.verdict.ensures given text ended (subst (λ (l : Loader). Loads given l text ended) (sym c.self.view_is) loads))
