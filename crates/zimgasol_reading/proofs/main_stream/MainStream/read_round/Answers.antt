use Rattle.std.proofs.Common.{sym, subst}
use Rattle.mig_sources.specs.declared.source.Source.TheVariants as source
use Rattle.zimgasol_reading.specs.declared.main_stream.MainStream.{MainStream}
use Rattle.zimgasol_reading.specs.Left.{main_left}
use Rattle.zimgasol_reading.specs.Loaded.{TakesOf}
use Rattle.zimgasol_reading.proofs.main_stream.MainStream.read_round.Goals as goal

pub returns : goal.returns
returns g c =
    subst (λ (m : MainStream). TakesOf source.Main (main_left (g.R.Read.remaining c.args.input.now) c.args.self.now)
    (main_left (g.R.Read.remaining c.read_pieces.new.input) m) c.args.load.now c.read_pieces.new.load) (sym c.count_round.ensures) c.in_ok-read_pieces.ensures
