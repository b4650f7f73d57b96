use Rattle.std.proofs.Common.{◌≡◌, ◌++◌, rules, ap}
use Rattle.zimgasol_files.specs.Waiting.{waits}
use Rattle.zimgasol_reading.specs.Left.{main_left}
use Rattle.zimgasol_reading.proofs.Consuming.{keeps_held, keeps_moved, end_moved}
use Rattle.zimgasol_reading.proofs.main_stream.MainStream.hold_piece.Goals as goal

pub returns-then-not-is_more : goal.returns-then-not-is_more
returns-then-not-is_more g c = (
  keeps_held (main_left (g.R.Read.remaining c.args.input.now) c.args.self.now) (main_left (g.R.Read.remaining c.refill.new.input) c.refill.new.self)
      c.args.self.now.held.items c.refill.new.self.held.items (ap (λ v. v.items) c.refill.ensures.held) c.in_ok-is_more.ensures.kept,
  c.in_ok-is_more.ensures.over,
)

pub returns : goal.returns
returns g c =
    let left = g.R.Read.remaining c.refill.new.input in
    let waiting = waits c.refill.new.self.pieces in
    let held : c.refill.new.self.held.items ≡ c.args.self.now.held.items = ap (λ v. v.items) c.refill.ensures.held in
    let grown : c.extend_from_slice.new.self.items ≡ c.args.self.now.held.items ++ waiting = search (rules, c.waiting.ensures, held) in (
      keeps_moved (main_left (g.R.Read.remaining c.args.input.now) c.args.self.now) left c.args.self.now.held.items c.extend_from_slice.new.self.items
          waiting (waits c.take_all.new.self) grown c.take_all.ensures c.in_ok-is_more.ensures.kept,
      λ over yes. end_moved left waiting (waits c.take_all.new.self) c.take_all.ensures (c.in_ok-is_more.ensures.over over yes),
    )
