use Rattle.std.proofs.Common.{◌≡◌, []}
use Rattle.mig_uses.specs.Straight.{GoesOn}
use Rattle.mig_uses.proofs.straight.take_turns.Given as goal

abbrev pub invariant-loop : goal.invariant-loop
invariant-loop g l = record {
  goes : GoesOn (g.M.GuestTarget.image l.fn.memory) l.fn.load (g.M.GuestTarget.image l.memory) l.load;
  nothing : l.load.claimed.marked ≡ [];
  table : (g.M.GuestTarget.image l.memory).table ≡ l.load.load.table;
}
