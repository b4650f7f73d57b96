use Rattle.std.proofs.Common.{◌≡◌, ◌++◌, take, drop, sym, subst}
use Rattle.zimgasol_course.specs.Seen.{HasSeen}
use Rattle.zimgasol_reading.specs.declared.tail.Tail.{Tail}
use Rattle.zimgasol_reading.specs.Tailed.{HasSeenBytes}
use Rattle.zimgasol_reading.proofs.survey.read_course.Goals as goal

pub returns-in-Ok-clause-seen : goal.returns-in-Ok-clause-seen
returns-in-Ok-clause-seen g c = λ given rest is few s had.
    let now = c.read-read.new.self in
    let fed = c.read-read.new.taker.fed in (
      fed,
      subst (λ (t : Tail). HasSeen (HasSeenBytes fed t) (drop c.args.before (take c.args.len c.args.buffer.now ++ rest)) now.pause now.state now.valid)
          (sym c.into_parts-blocks.ensures.tail) (c.in-Ok.ensures.seen given rest is few s had),
    )
