use Rattle.std.proofs.Common.{◌≡◌, ◌≤◌, ◌++◌, length, map, vec_capacity}
use Rattle.std.specs.Vec.Iter.{into_iter_items}
use Rattle.mig_sources.specs.Reads.{no_reads}
use Rattle.mig_in_place.specs.Turns.{new_source}
use Rattle.mig_uses.proofs.by_turns.buffered.Given as goal

abbrev pub invariant-loop-connection : goal.invariant-loop-connection
invariant-loop-connection g l = record {
  taken : l.yielded ++ into_iter_items l.connection-iterator ≡ into_iter_items l.initial.connection-iterator;
  kept : l.sources.items ≡ map (new_source no_reads) (map g.R.Read.remaining l.yielded);
  room : length (into_iter_items l.initial.connection-iterator) ≤ vec_capacity l.sources;
}
