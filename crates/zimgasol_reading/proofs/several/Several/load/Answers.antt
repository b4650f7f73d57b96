use Rattle.std.proofs.Common.{subst}
use Rattle.zimgasol_reading.specs.declared.main_stream.MainStream.{MainStream}
use Rattle.zimgasol_reading.specs.Loaded.{TakesOn}
use Rattle.std.specs.Io.KnownBytes.{prepend_known}
use Rattle.zimgasol_reading.specs.Left.{main_left, channels_left, sources_left}
use Rattle.zimgasol_reading.proofs.Consuming.{takes_both}
use Rattle.zimgasol_reading.proofs.several.Several.load.Goals as goal

pub returns-clause-takes : goal.returns-clause-takes
returns-clause-takes g c = λ over.
    let left = main_left (g.R.Read.remaining c.args.input.now) c.args.self.now.main in
    let channels = channels_left g.F.Read.remaining c.args.self.now.channels.items in
    takes_both (record { main = prepend_known c.args.self.now.main.held.items left; channels = channels }) (record { main = left; channels = channels })
    (sources_left g.F.Read.remaining (g.R.Read.remaining c.read_rounds.new.input) c.read_rounds.new.self)
    c.args.load.now c.begin.new.load c.read_rounds.new.load
    (c.in_ok-begin.ensures.takes left over (record { main = left; channels = channels }))
    (subst (λ (m : MainStream). TakesOn (record { main = main_left (g.R.Read.remaining c.args.input.now) m; channels = channels })
    (sources_left g.F.Read.remaining (g.R.Read.remaining c.read_rounds.new.input) c.read_rounds.new.self) c.begin.new.load c.read_rounds.new.load)
    c.in_ok-begin.ensures.others c.in_ok-read_rounds.ensures.takes)
