use Rattle.std.proofs.Common.{sym, subst}
use Rattle.mig_mapped.specs.Head.{MappedProgress}
use Rattle.mig_mapped.specs.Load.{LoadsMapped}
use Rattle.mig_mapped.proofs.Loading.{new_loads}
use Rattle.mig_mapped.proofs.load.MappedLoad.new.Goals as goal

pub returns-clause-loads : goal.returns-clause-loads
returns-clause-loads g c = λ first file is len.
    subst (λ (x : MappedProgress). LoadsMapped c.args.place c.args.total first file (record { index = x; place = c.args.place }) first) (sym c.new.ensures)
    (new_loads c.args.settings c.args.place c.args.total first file is len)
