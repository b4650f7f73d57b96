use Rattle.std.proofs.Common.{◌≡◌, ◌≤◌, ◌<◌, length, take}
use Rattle.std.specs.Io.KnownBytes.{IsAtEnd}
use Rattle.zimgasol_course.proofs.Reading.{StandsAt, SeesAt, ReadsTo}
use Rattle.zimgasol_course.proofs.course.Course.read.Given as goal

abbrev pub invariant-pieces : goal.invariant-pieces
invariant-pieces g l = record {
  within : l.len ≤ length l.buffer;
  same : length l.buffer ≡ length l.fn.buffer;
  end : l.len < length l.buffer → IsAtEnd (g.R.Read.remaining l.input);
  so_far : ReadsTo (λ given text. StandsAt (g.T.Taker.holds l.fn.taker) given text l.fn.self) (g.R.Read.remaining l.fn.input) l.before
      (take l.fn.len l.fn.buffer)
      (λ given text. StandsAt (g.T.Taker.holds l.taker) given text l.self) (g.R.Read.remaining l.input) l.skip (take l.len l.buffer);
  seen : ReadsTo (λ given text. SeesAt (g.T.Taker.holds l.fn.taker) (g.T.Taker.sees l.fn.taker) given text l.fn.self) (g.R.Read.remaining l.fn.input)
      l.before (take l.fn.len l.fn.buffer)
      (λ given text. SeesAt (g.T.Taker.holds l.taker) (g.T.Taker.sees l.taker) given text l.self) (g.R.Read.remaining l.input) l.skip (take l.len l.buffer);
}
