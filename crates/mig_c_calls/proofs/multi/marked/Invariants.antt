use Rattle.std.proofs.Common.{◌≡◌, map, take}
use Rattle.mig_c_calls.specs.Multi.{place_of, set_of}
use Rattle.mig_c_calls.proofs.multi.marked.Given as goal

abbrev pub invariant-loop-named : goal.invariant-loop-named
invariant-loop-named l = record {
  set : l.dirty ≡ set_of l.fn.table (map place_of (take l.named-index l.places));
  table : l.dirty.table ≡ l.fn.table;
}
