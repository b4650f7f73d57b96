use Rattle.std.proofs.Common.{◌≡◌, ◌++◌, List, [], length, take, refl, sym, ap, ◌∙◌, arith}
use Rattle.std.proofs.lemmas.List.{length-take-le, append-nil}
use Rattle.mig_stream.specs.Reading.{Settings}
use Rattle.zimgasol_course.proofs.Reading.{StandsAt, SeesAt, read_first, read_whole, read_over, part_more, over_more, over_sees}
use Rattle.zimgasol_course.proofs.course.Course.read.Goals as goal

pub pieces-init : goal.pieces-init
pieces-init g c = record {
  within = c.requires.within;
  same = refl;
  end = c.requires.end;
  so_far = λ given rest is few s. read_first (λ text. StandsAt (g.T.Taker.holds c.args.taker.now) given text c.args.self.now) c.args.before
      (take c.args.len c.args.buffer.now) rest (g.R.Read.remaining c.args.input.now) is s;
  seen = λ given rest is few s.
      read_first (λ text. SeesAt (g.T.Taker.holds c.args.taker.now) (g.T.Taker.sees c.args.taker.now) given text c.args.self.now) c.args.before
      (take c.args.len c.args.buffer.now) rest (g.R.Read.remaining c.args.input.now) is s;
}

pub returns-then-len-eq0 : goal.returns-then-len-eq0
returns-then-len-eq0 g c =
    let none : take c.pieces.len c.pieces.buffer ≡ [] = ap (λ n. take n c.pieces.buffer) c.if-len-eq0.true in
    let end = c.pieces.invariant.end (omega (arith, c.if-len-eq0.true, c.pieces.invariant.same, c.requires.room)) in
    record {
      ok = λ given rest is few s.
          read_whole (λ text. StandsAt (g.T.Taker.holds c.pieces.taker) given text c.pieces.self) c.args.before
          (take c.args.len c.args.buffer.now ++ rest) (take c.pieces.len c.pieces.buffer)
          (g.R.Read.remaining c.pieces.input) c.pieces.skip (c.pieces.invariant.so_far given rest is few s) none end;
      seen = λ given rest is few s had.
          (read_whole (λ text. SeesAt (g.T.Taker.holds c.pieces.taker) (g.T.Taker.sees c.pieces.taker) given text c.pieces.self) c.args.before
          (take c.args.len c.args.buffer.now ++ rest) (take c.pieces.len c.pieces.buffer)
          (g.R.Read.remaining c.pieces.input) c.pieces.skip (c.pieces.invariant.seen given rest is few (s, had)) none end).1;
    }

pub returns-then-is_bad : goal.returns-then-is_bad
returns-then-is_bad g c =
    let over = c.is_bad.ensures.over c.if-is_bad.true in
    let other = c.is_bad.ensures.other c.if-is_bad.true in
    record {
      ok = λ given rest is few s.
          read_over (λ text. StandsAt (g.T.Taker.holds c.pieces.taker) given text c.pieces.self)
          (λ text. StandsAt (g.T.Taker.holds c.feed_part.new.taker) given text c.feed_part.new.self) c.args.before
          (take c.args.len c.args.buffer.now ++ rest) (take c.pieces.len c.pieces.buffer) (g.R.Read.remaining c.pieces.input) c.pieces.skip few
          (λ text short stood. c.in_ok-skip.ensures.ok given text short stood) (c.pieces.invariant.so_far given rest is few s)
          (λ text more stood. over_more (g.T.Taker.holds c.feed_part.new.taker) given text more c.feed_part.new.self over stood);
      seen = λ given rest is few s had.
          (read_over (λ text. SeesAt (g.T.Taker.holds c.pieces.taker) (g.T.Taker.sees c.pieces.taker) given text c.pieces.self)
          (λ text. SeesAt (g.T.Taker.holds c.feed_part.new.taker) (g.T.Taker.sees c.feed_part.new.taker) given text c.feed_part.new.self) c.args.before
          (take c.args.len c.args.buffer.now ++ rest) (take c.pieces.len c.pieces.buffer) (g.R.Read.remaining c.pieces.input) c.pieces.skip few
          (λ text short at. (c.in_ok-skip.ensures.ok given text short at.0, c.in_ok-skip.ensures.seen given text short at.0 at.1))
          (c.pieces.invariant.seen given rest is few (s, had))
          (λ text more at. over_sees (g.T.Taker.holds c.feed_part.new.taker) (g.T.Taker.sees c.feed_part.new.taker) given text more c.feed_part.new.self
          over other at)).1;
    }

pub pieces-preserved : goal.pieces-preserved
pieces-preserved g c = record {
  within = omega (arith, c.in_ok-len.ensures.count, c.in_ok-len.ensures.len);
  same = c.in_ok-len.ensures.len ∙ c.pieces.invariant.same;
  end = λ short. c.in_ok-len.ensures.end (omega (arith, short, c.in_ok-len.ensures.len));
  so_far = λ given rest is few s.
      part_more (λ text. StandsAt (g.T.Taker.holds c.pieces.taker) given text c.pieces.self)
      (λ text. StandsAt (g.T.Taker.holds c.feed_part.new.taker) given text c.feed_part.new.self) c.args.before
      (take c.args.len c.args.buffer.now ++ rest) (take c.pieces.len c.pieces.buffer) (take c.in_ok-len.len c.read_piece.new.buffer)
      (g.R.Read.remaining c.pieces.input) (g.R.Read.remaining c.read_piece.new.input) c.pieces.skip c.in_ok-skip.skip c.pieces.len few
      (sym (length-take-le c.pieces.len c.pieces.buffer c.pieces.invariant.within)) c.in_ok-skip.ensures.skip
      (λ text short stood. c.in_ok-skip.ensures.ok given text short stood) c.in_ok-len.ensures.bytes
      (c.pieces.invariant.so_far given rest is few s);
  seen = λ given rest is few s.
      part_more (λ text. SeesAt (g.T.Taker.holds c.pieces.taker) (g.T.Taker.sees c.pieces.taker) given text c.pieces.self)
      (λ text. SeesAt (g.T.Taker.holds c.feed_part.new.taker) (g.T.Taker.sees c.feed_part.new.taker) given text c.feed_part.new.self) c.args.before
      (take c.args.len c.args.buffer.now ++ rest) (take c.pieces.len c.pieces.buffer) (take c.in_ok-len.len c.read_piece.new.buffer)
      (g.R.Read.remaining c.pieces.input) (g.R.Read.remaining c.read_piece.new.input) c.pieces.skip c.in_ok-skip.skip c.pieces.len few
      (sym (length-take-le c.pieces.len c.pieces.buffer c.pieces.invariant.within)) c.in_ok-skip.ensures.skip
      (λ text short at. (c.in_ok-skip.ensures.ok given text short at.0, c.in_ok-skip.ensures.seen given text short at.0 at.1)) c.in_ok-len.ensures.bytes
      (c.pieces.invariant.seen given rest is few s);
}
