use Rattle.std.proofs.Common.{◌≡◌, length}
use Rattle.zimgasol_reading.specs.Left.{inlets_of}
use Rattle.zimgasol_reading.proofs.several.advance_lanes.Given as goal

abbrev pub invariant-loop-i : goal.invariant-loop-i
invariant-loop-i g l = (length l.channels ≡ length l.fn.channels) × (inlets_of l.channels ≡ inlets_of l.fn.channels)
