use Rattle.std.proofs.Common.{◌≡◌, false, rules, sym, subst}
use Rattle.std.specs.Io.KnownBytes.{Keeps}
use Rattle.zimgasol_files.specs.Waiting.{to_come}
use Rattle.zimgasol_files.specs.declared.pieces.Pieces.{Pieces}
use Rattle.zimgasol_reading.specs.Left.{main_left}
use Rattle.zimgasol_reading.proofs.Consuming.{keeps_same}
use Rattle.zimgasol_reading.proofs.main_stream.MainStream.refill.Goals as goal

pub returns-then-not-is_empty-clause-kept : goal.returns-then-not-is_empty-clause-kept
returns-then-not-is_empty-clause-kept g c = keeps_same (main_left (g.R.Read.remaining c.args.input.now) c.args.self.now)

pub returns-then-is_more-clause-kept : goal.returns-then-is_more-clause-kept
returns-then-is_more-clause-kept g c =
    subst (λ (p : Pieces). Keeps (main_left (g.R.Read.remaining c.args.input.now) c.args.self.now) (to_come (g.R.Read.remaining c.refill.new.input) p))
    (sym c.look.ensures.0) c.in_ok-is_more.ensures.kept

pub returns-clause-over : goal.returns-clause-over
returns-clause-over g c = λ over yes. let none : c.in_ok-is_more.is_more ≡ false = search rules in c.in_ok-is_more.ensures.end none
