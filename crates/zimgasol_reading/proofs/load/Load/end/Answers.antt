use Rattle.std.proofs.Common.{sym, subst}
use Rattle.std.proofs.lemmas.Bool.{false≢true}
use Rattle.mig_sources.specs.Sources.{HasSource}
use Rattle.mig_in_place.specs.Sources.{counts_of}
use Rattle.zimgasol_reading.specs.Loaded.{LoadInto}
use Rattle.zimgasol_reading.proofs.Loading.{never_there}
use Rattle.zimgasol_reading.proofs.load.Load.end.Goals as goal

pub returns-else-has : goal.returns-else-has
returns-else-has g c = never_there c.args.source c.args.self.now.memory c.args.self.now.load
    (λ has. false≢true (c.if-has.ensures.1 (subst (λ (l : LoadInto). HasSource (counts_of l.load.sources) c.args.source) (sym c.self.view_is) has)))
