use Rattle.std.proofs.Common.{ℕ, ◌≡◌, List, length, Option}
use Rattle.zimgasol_reading.specs.Left.{channels_left}
use Rattle.zimgasol_reading.specs.Loaded.{TakesOn}
use Rattle.zimgasol_reading.proofs.several.read_channels.Given as goal

abbrev pub invariant-loop-i : goal.invariant-loop-i
invariant-loop-i g l = ((main : Option (List ℕ)) → TakesOn (record { main = main; channels = channels_left g.F.Read.remaining l.fn.channels })
    (record { main = main; channels = channels_left g.F.Read.remaining l.channels }) l.fn.load l.load) × (length l.channels ≡ length l.fn.channels)
