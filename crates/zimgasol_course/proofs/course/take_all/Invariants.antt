use Rattle.mig_stream.specs.Giving.{left}
use Rattle.zimgasol_course.specs.Course.{TakesOn}
use Rattle.zimgasol_course.specs.Seen.{StillSees}
use Rattle.zimgasol_course.proofs.course.take_all.Given as goal

abbrev pub invariant-records : goal.invariant-records
invariant-records g l = record {
  taken : TakesOn (g.T.Taker.holds l.fn.taker) l.fn.reader l.fn.has_begun l.fn.sections (g.T.Taker.holds l.taker) l.reader l.has_begun l.sections;
  seen : StillSees (g.T.Taker.sees l.fn.taker) (g.T.Taker.sees l.taker);
}

abbrev pub decreases-records : goal.decreases-records
decreases-records g l = left l.reader
