use Rattle.std.proofs.Common.{subst, sym}
use Rattle.mig_load_types.specs.Settings.{single_of}
use Rattle.mig_single_load.specs.Loader.{Loader, loader, put_so_far, sections_loaded, Loads}
use Rattle.mig_single_load.proofs.loader.SingleLoader.closed_at.Goals as goal

pub returns : goal.returns
returns g c = λ given text ended loads.
    let l : Loader = loader c.self.inside.reader c.self.inside.target in
    c.closed_at.ensures (single_of given) (put_so_far text ended (sections_loaded l))
    (subst (λ (x : Loader). Loads given x text ended) (sym c.self.view_is) loads).stands
