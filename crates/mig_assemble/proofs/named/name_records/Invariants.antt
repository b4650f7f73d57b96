use Rattle.std.proofs.Common.{◌≡◌, take, map}
use Rattle.mig_stream.specs.PageRecord.{page_of}
use Rattle.mig_assemble.specs.Judging.{places_of}
use Rattle.mig_assemble.specs.NamedPlaces.{with_places}
use Rattle.mig_assemble.proofs.named.name_records.Given as goal

abbrev pub invariant-loop-i : goal.invariant-loop-i
invariant-loop-i g l = record {
  table : l.named.table ≡ l.fn.named.table;
  named : l.named ≡ with_places l.fn.named (places_of (map (page_of l.round.page_size) (take l.i l.round.records)));
}
