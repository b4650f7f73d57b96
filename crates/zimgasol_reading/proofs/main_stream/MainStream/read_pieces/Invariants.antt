use Rattle.mig_sources.specs.declared.source.Source.TheVariants as source
use Rattle.zimgasol_reading.specs.Left.{main_left}
use Rattle.zimgasol_reading.specs.Loaded.{TakesOf}
use Rattle.zimgasol_reading.proofs.main_stream.MainStream.read_pieces.Given as goal

abbrev pub invariant-pieces : goal.invariant-pieces
invariant-pieces g l = TakesOf source.Main (main_left (g.R.Read.remaining l.fn.input) l.fn.self) (main_left (g.R.Read.remaining l.input) l.self)
    l.fn.load l.load
