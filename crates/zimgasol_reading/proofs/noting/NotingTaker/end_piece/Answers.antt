use Rattle.std.proofs.Common.{◌≡◌, sym, subst, ◌∙◌}
use Rattle.zimgasol_course.specs.Seen.{SeesPiece}
use Rattle.zimgasol_reading.specs.Tailed.{HasSeenBytes}
use Rattle.zimgasol_reading.proofs.SeenAfter.{sees_end, sees_rest}
use Rattle.zimgasol_reading.proofs.noting.NotingTaker.end_piece.Goals.{in-Closed+in_ok-look-2+in_ok-take_after, in_default}
use Rattle.zimgasol_reading.proofs.noting.NotingTaker.end_piece.Goals as goal

pub returns-clause-seen : goal.returns-clause-seen
returns-clause-seen g c =
    let old = c.args.self.now in
    elim c.match-found.branch [
      | in-Closed+in_ok-look-2+in_ok-take_after w ↦
          subst (λ n. SeesPiece (HasSeenBytes old.fed old.tail) (HasSeenBytes n.fed n.tail) c.args.piece.now c.args.valid c.args.found) (sym w.self-is)
          (sees_end old.fed c.keep_front.new.self.fed old.tail c.keep_front.new.self.tail w.look-in-Closed.new.self c.args.piece.now w.after_in-after.result.now
          c.args.valid c.args.found w.in-Closed.is c.in_ok-keep_front.ensures.tail w.after_in-after.ensures w.in_ok-look-2.ensures.seen)
      | in_default w ↦
          subst (λ n. SeesPiece (HasSeenBytes old.fed old.tail) (HasSeenBytes n.fed n.tail) c.args.piece.now c.args.valid c.args.found) (sym w.self-is)
          (sees_rest old.fed c.keep_front.new.self.fed old.tail c.keep_front.new.self.tail c.args.piece.now c.args.valid c.args.found w.in_default.not-Closed
          (c.in_ok-keep_front.ensures.fed ∙ c.saturating_add-self.ensures) c.in_ok-keep_front.ensures.tail)
    ]
