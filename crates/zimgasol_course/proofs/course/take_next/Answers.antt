use Rattle.zimgasol_course.proofs.Seeing.{still_on}
use Rattle.zimgasol_course.proofs.Taking.{taken_next}
use Rattle.zimgasol_course.proofs.course.take_next.Goals as goal

pub returns-clause-ok : goal.returns-clause-ok
returns-clause-ok g c =
    taken_next (g.T.Taker.holds c.args.taker.now) (g.T.Taker.holds c.begin.new.taker) (g.T.Taker.holds c.take_known.new.taker)
    (g.T.Taker.holds c.take_known.new.taker) c.args.gave c.args.reader.now c.args.has_begun.now c.args.sections.now
    c.in_ok-has_begun.field-0 c.count_section.result c.in_ok-has_begun.ensures.ok c.in_ok-take_known.ensures.ok (λ table records held. held)
    c.count_section.ensures

pub returns-clause-seen : goal.returns-clause-seen
returns-clause-seen g c =
    still_on (g.T.Taker.sees c.args.taker.now) (g.T.Taker.sees c.begin.new.taker) (g.T.Taker.sees c.take_known.new.taker)
    c.in_ok-has_begun.ensures.seen c.in_ok-take_known.ensures.seen
