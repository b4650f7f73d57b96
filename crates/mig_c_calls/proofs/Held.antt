-- A worker with the table that is kept next to it.
use Rattle.std.proofs.Common.{◌≡◌, ap, subst}
use Rattle.std.proofs.Props.{props}
use Rattle.mig_mem.specs.RamTable.{RamTable}
use Rattle.mig_send.specs.ChannelWork.{ChannelWork}
use Rattle.mig_c_calls.specs.declared.waiting.Waiting.{Waiting}
use Rattle.mig_c_calls.specs.declared.sending.HeldWorker.{HeldWorker}

-- a table is the worker's in one way
one_way : (t u : RamTable) (p q : t ≡ u) → p ≡ q
one_way t u p q = hlevel props

abbrev pub held_of : (worker : ChannelWork) (table : RamTable) (drained : Waiting) → table ≡ worker.terms.table → HeldWorker
held_of worker table drained same = record { worker = worker; table = table; drained = drained; same_table = same }

-- with the same worker it is the same
pub same_held : (a b : ChannelWork) (t : RamTable) (d : Waiting) (p : t ≡ a.terms.table) (q : t ≡ b.terms.table) → a ≡ b → held_of a t d p ≡ held_of b t d q
same_held a b t d p q e =
    subst (λ (x : ChannelWork). (r : t ≡ x.terms.table) → held_of a t d p ≡ held_of x t d r) e
    (λ r. ap (λ (s : t ≡ a.terms.table). held_of a t d s) (one_way t a.terms.table p r)) q
