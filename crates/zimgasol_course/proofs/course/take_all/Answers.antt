use Rattle.zimgasol_course.proofs.Seeing.{still_on}
use Rattle.zimgasol_course.proofs.Taking.{Step, takes_none, takes_on, takes_all, takes_kept, not_end}
use Rattle.zimgasol_course.proofs.course.take_all.Goals as goal

pub records-init : goal.records-init
records-init g c = record {
  taken = takes_none (g.T.Taker.holds c.args.taker.now) c.args.reader.now c.args.has_begun.now c.args.sections.now;
  seen = λ seen had. had;
}

pub records-preserved : goal.records-preserved
records-preserved g c =
    let e = c.in_ok-gave.ensures in
    let step : Step c.in_ok-gave.gave c.records.reader c.read_on_reporting.new.self = record
    { ok = e.ok; page_size = e.page_size; places = e.places; end = e.end } in
    record {
      taken = takes_on (g.T.Taker.holds c.args.taker.now) (g.T.Taker.holds c.note.new.self) (g.T.Taker.holds c.take_next.new.taker) c.in_ok-gave.gave
          c.args.reader.now c.records.reader c.read_on_reporting.new.self c.args.has_begun.now c.records.has_begun c.take_next.new.has_begun
          c.args.sections.now c.records.sections c.take_next.new.sections
          (not_end c.in_ok-gave.gave c.in_default.not-End) step c.in_ok-take_next.ensures.ok
          (takes_kept (g.T.Taker.holds c.args.taker.now) (g.T.Taker.holds c.records.taker) (g.T.Taker.holds c.note.new.self)
          c.args.reader.now c.records.reader c.args.has_begun.now c.records.has_begun c.args.sections.now c.records.sections
          c.in_ok-note.ensures.ok c.records.invariant.taken);
      seen = still_on (g.T.Taker.sees c.args.taker.now) (g.T.Taker.sees c.note.new.self) (g.T.Taker.sees c.take_next.new.taker)
          (still_on (g.T.Taker.sees c.args.taker.now) (g.T.Taker.sees c.records.taker) (g.T.Taker.sees c.note.new.self) c.records.invariant.seen
          c.in_ok-note.ensures.seen)
          c.in_ok-take_next.ensures.seen;
    }

pub returns-in-End-clause-ok : goal.returns-in-End-clause-ok
returns-in-End-clause-ok g c =
    let e = c.in_ok-gave.ensures in
    let step : Step c.in_ok-gave.gave c.records.reader c.read_on_reporting.new.self = record
    { ok = e.ok; page_size = e.page_size; places = e.places; end = e.end } in
    takes_all (g.T.Taker.holds c.args.taker.now) (g.T.Taker.holds c.note.new.self) c.in_ok-gave.gave c.in-End.found
    c.args.reader.now c.records.reader c.read_on_reporting.new.self c.args.has_begun.now c.records.has_begun c.args.sections.now c.records.sections
    c.in-End.is step
    (takes_kept (g.T.Taker.holds c.args.taker.now) (g.T.Taker.holds c.records.taker) (g.T.Taker.holds c.note.new.self)
    c.args.reader.now c.records.reader c.args.has_begun.now c.records.has_begun c.args.sections.now c.records.sections
    c.in_ok-note.ensures.ok c.records.invariant.taken)

pub returns-in-End-clause-seen : goal.returns-in-End-clause-seen
returns-in-End-clause-seen g c =
    still_on (g.T.Taker.sees c.args.taker.now) (g.T.Taker.sees c.records.taker) (g.T.Taker.sees c.note.new.self) c.records.invariant.seen
    c.in_ok-note.ensures.seen
