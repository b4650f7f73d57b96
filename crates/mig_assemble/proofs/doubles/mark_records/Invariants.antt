use Rattle.std.proofs.Common.{List, ◌≡◌, ◌++◌, take, map}
use Rattle.mig_mem.specs.declared.place.Place.{Place}
use Rattle.mig_stream.specs.PageRecord.{page_of}
use Rattle.mig_assemble.specs.Judging.{places_of}
use Rattle.mig_assemble.specs.Seen.{HasSeen}
use Rattle.mig_assemble.proofs.doubles.mark_records.Given as goal

abbrev pub invariant-loop-i : goal.invariant-loop-i
invariant-loop-i g l = record {
  table : l.seen.table ≡ l.fn.seen.table;
  seen : (places : List Place) → HasSeen l.fn.seen.table places l.fn.seen l.fn.double
      → HasSeen l.fn.seen.table (places ++ places_of (map (page_of l.round.page_size) (take l.i l.round.records))) l.seen l.double;
}
