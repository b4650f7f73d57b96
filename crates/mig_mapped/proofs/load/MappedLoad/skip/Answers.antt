use Rattle.std.proofs.Common.{sym, subst}
use Rattle.mig_mapped.specs.Load.{MappedLoading, LoadsMapped, AreSkipped}
use Rattle.mig_mapped.proofs.Loading.{skip_loads}
use Rattle.mig_mapped.proofs.load.MappedLoad.skip.Goals as goal

pub returns-clause-loads : goal.returns-clause-loads
returns-clause-loads g c = λ memory bytes len at total first file l.
    let s : MappedLoading = record { index = c.self.inside.index; place = c.self.inside.place } in
    skip_loads s c.args.count c.self.invariant (subst (λ (x : MappedLoading). AreSkipped x c.args.count) (sym c.self.view_is) c.requires) memory bytes len
    at total first file (subst (λ (x : MappedLoading). LoadsMapped at total first file x memory) (sym c.self.view_is) l)
