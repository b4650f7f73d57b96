use Rattle.std.proofs.Common.{◌≡◌, false, rules}
use Rattle.mig_sources.specs.declared.source.Source.TheVariants as source
use Rattle.zimgasol_files.specs.Waiting.{waits}
use Rattle.zimgasol_reading.specs.Left.{main_left}
use Rattle.zimgasol_reading.proofs.Consuming.{takes_piece, takes_ended}
use Rattle.zimgasol_reading.proofs.main_stream.MainStream.feed_piece.Goals as goal

pub returns-then-not-is_more : goal.returns-then-not-is_more
returns-then-not-is_more g c =
    let none : c.in_ok-is_more.is_more ≡ false = search rules in
    takes_ended source.Main (main_left (g.R.Read.remaining c.args.input.now) c.args.self.now)
    (main_left (g.R.Read.remaining c.refill.new.input) c.refill.new.self) c.args.load.now c.end.new.self c.end.ensures
    c.in_ok-is_more.ensures.kept (c.in_ok-is_more.ensures.end none)

pub returns : goal.returns
returns g c =
    takes_piece source.Main (main_left (g.R.Read.remaining c.args.input.now) c.args.self.now) (g.R.Read.remaining c.refill.new.input)
    (waits c.refill.new.self.pieces) c.waiting.result.now (waits c.take.new.self) c.in_ok-taken.taken
    c.args.load.now c.feed.new.self c.in_ok-taken.ensures.takes c.waiting.ensures c.take.ensures c.in_ok-is_more.ensures.kept
