use Rattle.std.proofs.Common.{◌≡◌, ◌++◌, Option, None, Some, sym, ◌∙◌, subst}
use Rattle.mig_stream.specs.Giving.{Paused}
use Rattle.zimgasol_course.specs.Course.{Stands}
use Rattle.zimgasol_course.specs.Seen.{HasSeen}
use Rattle.zimgasol_course.proofs.Seeing.{closed_at, closed_within, sees_after}
use Rattle.zimgasol_course.proofs.Taking.{stands_over, stands_kept}
use Rattle.zimgasol_course.proofs.course.Course.feed.Goals as goal

pub returns-in_default-clause-ok : goal.returns-in_default-clause-ok
returns-in_default-clause-ok g c = λ given text few s.
    let old = c.args.self.now in
    let before : old.pause ≡ None = sym c.take.ensures.value ∙ c.in_default.is in
    let at : Stands (g.T.Taker.holds c.args.taker.now) given (text ++ c.args.piece.now) None old.state old.sections old.valid old.has_begun =
    stands_over (g.T.Taker.holds c.args.taker.now) given text c.args.piece.now old.state old.sections old.valid old.has_begun
    (subst (λ (p : Option Paused). Stands (g.T.Taker.holds c.args.taker.now) given text p old.state old.sections old.valid old.has_begun) before s) in
    subst (λ (p : Option Paused). Stands (g.T.Taker.holds c.look_after.new.self) given (text ++ c.args.piece.now) p old.state old.sections old.valid
    old.has_begun)
    (sym c.take.ensures.after)
    (stands_kept (g.T.Taker.holds c.args.taker.now) (g.T.Taker.holds c.look_after.new.self) given (text ++ c.args.piece.now) None
    old.state old.sections old.valid old.has_begun c.in_ok-look_after.ensures.ok at)

pub returns-in_default-clause-seen : goal.returns-in_default-clause-seen
returns-in_default-clause-seen g c = λ given text few s had.
    let old = c.args.self.now in
    let before : old.pause ≡ None = sym c.take.ensures.value ∙ c.in_default.is in
    subst (λ (p : Option Paused). HasSeen (g.T.Taker.sees c.look_after.new.self) (text ++ c.args.piece.now) p old.state old.valid) (sym c.take.ensures.after)
    (sees_after (g.T.Taker.sees c.args.taker.now) (g.T.Taker.sees c.look_after.new.self) text c.args.piece.now old.valid old.state few
    (λ closed. closed_within given text old.valid
    (closed_at (g.T.Taker.holds c.args.taker.now) given text old.pause old.state old.sections old.valid s closed))
    c.in_ok-look_after.ensures.seen
    (subst (λ (p : Option Paused). HasSeen (g.T.Taker.sees c.args.taker.now) text p old.state old.valid) before had))

pub returns-clause-seen : goal.returns-clause-seen
returns-clause-seen g c = λ given text few s had.
    let old = c.args.self.now in
    let before : old.pause ≡ Some c.in-Some.pause = sym c.take.ensures.value ∙ c.in-Some.is in
    c.in_ok-pause.ensures.seen given text old.state old.valid few
    (subst (λ (p : Option Paused). Stands (g.T.Taker.holds c.args.taker.now) given text p old.state old.sections old.valid old.has_begun) before s)
    (subst (λ (p : Option Paused). HasSeen (g.T.Taker.sees c.args.taker.now) text p old.state old.valid) before had)
