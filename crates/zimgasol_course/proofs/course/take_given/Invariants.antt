use Rattle.zimgasol_course.specs.Seen.{StillSees}
use Rattle.zimgasol_course.proofs.Taking.{PutsSome}
use Rattle.zimgasol_course.proofs.course.take_given.Given as goal

abbrev pub invariant-loop-i : goal.invariant-loop-i
invariant-loop-i g l = record {
  put : PutsSome (g.T.Taker.holds l.fn.taker) (g.T.Taker.holds l.taker) l.given l.i;
  seen : StillSees (g.T.Taker.sees l.fn.taker) (g.T.Taker.sees l.taker);
}
