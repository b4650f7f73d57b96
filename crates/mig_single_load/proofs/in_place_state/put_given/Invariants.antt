use Rattle.std.proofs.Common.{◌≡◌}
use Rattle.mig_single_load.specs.LoadInPlace.{PutsNextSome}
use Rattle.mig_single_load.proofs.LoadsInPlace.{PutsSoFar, GivesSoFar, NamesSoFar}
use Rattle.mig_single_load.proofs.LoadedAtOnce.{calls}
use Rattle.mig_single_load.proofs.in_place_state.put_given.Given as goal

abbrev pub invariant-records : goal.invariant-records
invariant-records g l = record {
  some : PutsNextSome (g.M.GuestTarget.image l.fn.memory).table l.gave l.reader l.sections;
  same : (g.M.GuestTarget.image l.memory).table ≡ (g.M.GuestTarget.image l.fn.memory).table;
  put : PutsSoFar l.fn.first l.fn.reader (g.M.GuestTarget.image l.fn.memory) l.fn.sections l.gave l.reader (g.M.GuestTarget.image l.memory) l.sections;
  given : GivesSoFar l.fn.first l.fn.reader l.fn.sections l.gave l.reader l.sections;
  named_table : l.named.table ≡ l.fn.named.table;
  names : NamesSoFar l.fn.first l.fn.reader l.fn.named l.fn.sections l.gave l.reader l.named l.sections;
}

abbrev pub decreases-records : goal.decreases-records
decreases-records g l = calls l.gave l.reader
