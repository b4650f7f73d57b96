use Rattle.std.proofs.Common.{map, take}
use Rattle.std.specs.Prelude.{All}
use Rattle.mig_mem.specs.Place.{IsPlace}
use Rattle.mig_c_calls.specs.Multi.{place_of}
use Rattle.mig_c_calls.proofs.multi.has_all.Given as goal

abbrev pub invariant-loop-named : goal.invariant-loop-named
invariant-loop-named l = All (IsPlace l.table) (map place_of (take l.named-index l.places))
