use Rattle.std.proofs.Common.{◌≡◌, ◌++◌}
use Rattle.std.specs.Vec.Iter.{into_iter_items}
use Rattle.zimgasol_reading.specs.Left.{inlets_of}
use Rattle.zimgasol_reading.proofs.channel.channels_of.Given as goal

abbrev pub invariant-loop-inlet : goal.invariant-loop-inlet
invariant-loop-inlet g l = record {
  taken : l.yielded ++ into_iter_items l.inlet-iterator ≡ into_iter_items l.initial.inlet-iterator;
  kept : inlets_of l.channels.items ≡ l.yielded;
}
