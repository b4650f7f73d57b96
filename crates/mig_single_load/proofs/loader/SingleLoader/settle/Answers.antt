use Rattle.std.proofs.Common.{subst, sym}
use Rattle.mig_stream.proofs.Writing.{on_ok_so}
use Rattle.mig_single_load.specs.Loader.{Loader, Loads, Waits}
use Rattle.mig_single_load.proofs.Sections.{fed_of}
use Rattle.mig_single_load.proofs.Feeding.{fed_some, settled_some, on_err_so}
use Rattle.mig_single_load.proofs.loader.SingleLoader.settle.Goals as goal

pub settle-requires : goal.settle-requires
settle-requires g c = fed_some c.self.inside.reader c.self.inside.target c.self.invariant

pub invariant_of-self : goal.invariant_of-self
invariant_of-self g c =
    settled_some c.settle.result c.self.inside.reader c.settle.new.reader c.self.inside.target c.settle.new.target
    (fed_some c.self.inside.reader c.self.inside.target c.self.invariant) c.settle.ensures.ok c.settle.ensures.waits c.settle.ensures.err

pub returns-clause-ok : goal.returns-clause-ok
returns-clause-ok g c =
    on_ok_so c.settle.result _ _ c.settle.ensures.ok (λ puts given text ended loads.
    puts given text ended (fed_of given c.self.inside.reader c.self.inside.target text ended
    (subst (λ (l : Loader). Loads given l text ended) (sym c.self.view_is) loads)))

pub returns-clause-waits : goal.returns-clause-waits
returns-clause-waits g c =
    on_err_so c.settle.result _ _ c.settle.ensures.waits (λ waits given text ended loads.
    subst (λ (l : Loader). Waits given l text) c.self.view_is
    (waits given text ended (fed_of given c.self.inside.reader c.self.inside.target text ended
    (subst (λ (l : Loader). Loads given l text ended) (sym c.self.view_is) loads))))
