use Rattle.mig_mem.proofs.SameTables.{answers_same}
use Rattle.mig_mem.proofs.table.TablePartialEq.eq.Goals as goal

pub returns : goal.returns
returns g c = answers_same c.same.result c.args.self.now c.args.other.now c.same.ensures
