use Rattle.std.proofs.Common.{Some, None, subst}
use Rattle.mig_stream.specs.Giving.{HasNoneLeft}
use Rattle.mig_stream.specs.declared.item.StreamState.{StreamState}
use Rattle.zimgasol_course.specs.Seen.{OfStream}
use Rattle.zimgasol_course.proofs.Seeing.{sees_on, sees_over}
use Rattle.zimgasol_course.proofs.Taking.{stands_next, stands_kept, found_some}
use Rattle.zimgasol_course.proofs.course.take_piece.Goals as goal

pub pause-requires : goal.pause-requires
pause-requires g c = subst (λ (x : StreamState). HasNoneLeft x c.take_all.new.reader) c.in-Reading.is c.in_ok-found.ensures.none

pub returns-in_ok-pause-in-Reading-clause-ok : goal.returns-in_ok-pause-in-Reading-clause-ok
returns-in_ok-pause-in-Reading-clause-ok g c = λ given text before v few s.
    stands_kept (g.T.Taker.holds c.take_all.new.taker) (g.T.Taker.holds c.end_piece.new.self) given _ _ _ _ _ _ c.in_ok-end_piece.ensures.ok
    (stands_next (g.T.Taker.holds c.args.taker.now) (g.T.Taker.holds c.take_all.new.taker) given text c.args.piece.now c.args.pause
    c.resume-reader.result c.take_all.new.reader before c.in_ok-found.found
    c.args.sections.now c.take_all.new.sections v c.valid_up_to-valid.result c.args.has_begun.now c.take_all.new.has_begun (Some _) few
    c.resume-reader.ensures.gives c.in_ok-found.ensures.ok
    (c.valid_up_to-valid.ensures.end (found_some c.take_all.new.reader c.in_ok-found.found c.in_ok-found.ensures.none)) c.in_ok-pause-in-Reading.ensures s)

pub returns-in_default-clause-ok : goal.returns-in_default-clause-ok
returns-in_default-clause-ok g c = λ given text before v few s.
    stands_kept (g.T.Taker.holds c.take_all.new.taker) (g.T.Taker.holds c.end_piece.new.self) given _ _ _ _ _ _ c.in_ok-end_piece.ensures.ok
    (stands_next (g.T.Taker.holds c.args.taker.now) (g.T.Taker.holds c.take_all.new.taker) given text c.args.piece.now c.args.pause
    c.resume-reader.result c.take_all.new.reader before c.in_ok-found.found
    c.args.sections.now c.take_all.new.sections v c.valid_up_to-valid.result c.args.has_begun.now c.take_all.new.has_begun None few
    c.resume-reader.ensures.gives c.in_ok-found.ensures.ok
    (c.valid_up_to-valid.ensures.end (found_some c.take_all.new.reader c.in_ok-found.found c.in_ok-found.ensures.none)) c.in_default.not-Reading s)

pub returns-in_ok-pause-in-Reading-clause-seen : goal.returns-in_ok-pause-in-Reading-clause-seen
returns-in_ok-pause-in-Reading-clause-seen g c = λ given text before v few s had.
    sees_on (g.T.Taker.sees c.take_all.new.taker) (g.T.Taker.sees c.end_piece.new.self) text c.args.piece.now c.valid_up_to-valid.result
    c.in_ok-found.found c.in-Reading.is few c.in_ok-end_piece.ensures.seen (c.in_ok-found.ensures.seen (OfStream text) had)

pub returns-in_default-clause-seen : goal.returns-in_default-clause-seen
returns-in_default-clause-seen g c = λ given text before v few s had.
    sees_over (g.T.Taker.holds c.end_piece.new.self) (g.T.Taker.sees c.take_all.new.taker) (g.T.Taker.sees c.end_piece.new.self) given text c.args.piece.now
    s.so_far c.args.pause _ c.valid_up_to-valid.result c.in_ok-found.found few s.pauses (returns-in_default-clause-ok g c given text before v few s)
    c.in_ok-end_piece.ensures.seen (c.in_ok-found.ensures.seen (OfStream text) had)
